-- No band is written with a marker in its code, so that a code with a marker is damaged. Assumes nothing.
use mathlib.Core.Path.{◌≡◌, refl, sym, ap, ◌∙◌}
use Prim.Native.Nat.{ℕ}
use native.Mathlib.Omega.{arith}
use mathlib.Core.Bool.{Bool, true, false, ◌&&◌, ◌||◌}
use mathlib.Core.Option.{some, none}
use mathlib.Core.List.{List, [], ◌∷◌}
use lib.Dec.{eqb, leb}
use borrow.Author.Tests.{eqb-true, lt-leb}
use Rattle.ground.proofs.Bools.{no_way}
use Rattle.exact.specs.Value.{LawfulBytes}
use Rattle.band.specs.Band.{written, Right}
use Rattle.band.proofs.EveryBand.{code-lawful}
use Rattle.marker.specs.Marker.{marked}

-- where a byte after an FF is at most 8F there is no marker
lawful-unmarked : (b : ℕ) (code : List ℕ) → LawfulBytes b code → marked code ≡ false
unfolding marked
lawful-unmarked b [] h = refl
lawful-unmarked b (a ∷ []) h = refl
lawful-unmarked b (a ∷ d ∷ ds) h =
    ap (λ (x : Bool). x || marked (d ∷ ds)) (pair (eqb a 0xFF) refl) ∙ lawful-unmarked a (d ∷ ds) h.2
  where
    pair : (x : Bool) → eqb a 0xFF ≡ x → (x && leb 0x90 d) ≡ false
    pair true e = let k = h.2.1 (eqb-true a 0xFF e) in lt-leb 0x90 d (omega arith)
    pair false e = refl

module _ (width rows : ℕ) (table last : List ℕ) where
  -- no band's code has a marker
  pub code-unmarked : (band : List ℕ) → marked (written width rows table last band).code ≡ false
  code-unmarked band = lawful-unmarked 0 _ (code-lawful width rows table last band)

  -- a code in which a band was found has none
  pub found-unmarked : (code band : List ℕ) → Right width rows table last code (some band) → marked code ≡ false
  found-unmarked code band r = sym (ap marked r.1) ∙ code-unmarked band

  -- a code with a marker is damaged: no band of any width and height would have been written so
  pub marked-damaged : (code : List ℕ) → marked code ≡ true → Right width rows table last code none
  marked-damaged code m band is e = no_way (sym m ∙ sym (ap marked e) ∙ code-unmarked band)
