-- A code is marked by a pair of its bytes. Assumes nothing.
use mathlib.Core.Path.{◌≡◌, refl, sym}
use Prim.Native.Nat.{ℕ, zero, suc, ◌+◌, ◌≤◌, ◌<◌}
use native.Mathlib.Numerals.{add-one}
use native.Mathlib.Omega.{arith}
use mathlib.Core.Bool.{Bool, true, false, ◌&&◌, ◌||◌}
use mathlib.Core.List.{List, [], ◌∷◌}
use lib.Dec.{eqb, leb}
use lib.ListN.{length, get_or}
use borrow.Author.Tests.{eqb-true, le-leb, lt-leb}
use Rattle.std.specs.Bool.{MatchBool}
use Rattle.ground.proofs.Bools.{or-true}
use Rattle.marker.specs.Marker.{marked}

-- somewhere a byte of 90 or more stands just after an FF
abbrev pub Pair : List ℕ → Type 0
Pair code = (j : ℕ) × (j + 1 < length code) × (get_or code j 0 ≡ 0xFF) × (0x90 ≤ get_or code (j + 1) 0)

-- nowhere
abbrev pub NoPair : List ℕ → Type 0
NoPair code = (j : ℕ) → j + 1 < length code → get_or code j 0 ≡ 0xFF → get_or code (j + 1) 0 < 0x90

found : (code : List ℕ) (j : ℕ) → suc j < length code → get_or code j 0 ≡ 0xFF → 0x90 ≤ get_or code (suc j) 0
    → marked code ≡ true
unfolding marked
found [] j l f n = absurd (omega arith)
found (a ∷ []) j l f n = absurd (omega arith)
found (a ∷ b ∷ bs) zero l f n = rw (f, le-leb 0x90 b n)
found (a ∷ b ∷ bs) (suc j) l f n = or-true _ _ (found (b ∷ bs) j (omega arith) f n)

none : (code : List ℕ) → ((j : ℕ) → suc j < length code → get_or code j 0 ≡ 0xFF → get_or code (suc j) 0 < 0x90)
    → marked code ≡ false
unfolding marked
none [] h = refl
none (a ∷ []) h = refl
none (a ∷ b ∷ bs) h =
    rw (none (b ∷ bs) (λ j l f. h (suc j) (omega arith) f)) (pair (eqb a 0xFF) (λ e. h 0 (omega arith) (eqb-true a 0xFF e)))
  where
    pair : (x : Bool) → (x ≡ true → b < 0x90) → ((x && leb 0x90 b) || false) ≡ false
    pair true k = rw (lt-leb 0x90 b (k refl))
    pair false k = refl

-- so the code is marked where there is such a pair, and else it is not
pub marks : (code : List ℕ) (b : Bool) → MatchBool b (Pair code) (NoPair code) → b ≡ marked code
marks code true h = sym (found code h.0 (rw add-one at h.1) h.2 (rw add-one at h.3))
marks code false h = sym (none code (λ j l f. rw add-one at (h j (omega arith) f)))
