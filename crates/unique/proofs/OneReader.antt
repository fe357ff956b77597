-- There is one right reader: among all bands of that width and height it finds the one that is written as those bytes.
-- Assumes nothing.
use mathlib.Core.Path.{◌≡◌, refl, sym, ap, ap₂, ◌∙◌, fun_ext}
use mathlib.Core.Bool.{true, ◌&&◌}
use mathlib.Core.Option.{Option, some, none}
use mathlib.Core.List.{List, [], ◌∷◌}
use Prim.Native.Nat.{ℕ, zero, suc, ◌*◌}
use native.Mathlib.Nat.{mul-zero}
use native.Mathlib.Omega.{arith}
use lib.Dec.{eqb, eqb_refl}
use lib.ListN.{length}
use borrow.Author.Tests.{eqb-true}
use Rattle.ground.proofs.Bools.{is_true, no_way, both}
use Rattle.template.specs.Pels.{row_bytes, band_padded}
use Rattle.band.specs.Band.{written, Right, Reader}
use Rattle.band.proofs.One.{OneBand, one_right}
use Rattle.unique.proofs.Unique.{no-two}
use Rattle.unique.specs.Search.{search}
use Rattle.unique.proofs.Search.{found, Fits}
use Rattle.unique.specs.BandOfCode.{same_bytes, written_so, band_of_code}

same_bytes_lem : (a b : List ℕ) → same_bytes a b ≡ true → a ≡ b
unfolding same_bytes
same_bytes_lem [] [] e = refl
same_bytes_lem [] (y ∷ b) e = no_way (sym e)
same_bytes_lem (x ∷ a) [] e = no_way (sym e)
same_bytes_lem (x ∷ a) (y ∷ b) e =
    let k = both (eqb x y) (same_bytes a b) e in
    ap₂ (λ (z : ℕ) (l : List ℕ). z ∷ l) (eqb-true x y k.0) (same_bytes_lem a b k.1)

bytes_same : (a : List ℕ) → same_bytes a a ≡ true
unfolding same_bytes
bytes_same [] = refl
bytes_same (x ∷ a) = ap₂ ◌&&◌ (is_true (eqb x x) (eqb_refl x)) (bytes_same a)

-- what is found is right, in demand 2's words
module _ (width rows : ℕ) (table last code : List ℕ) where
  taken : (o : Option (List ℕ)) → Fits 255 (rows * row_bytes width) (written_so width rows table last code) o
      → Right width rows table last code o
  unfolding written_so
  taken (some l) a =
      let k = both (band_padded width l rows) (same_bytes (written width rows table last l).code code) a.2 in (
        record { size = a.0; padded = k.0; octets = a.1 },
        same_bytes_lem (written width rows table last l).code
            code k.1,
      )
  taken none a =
      λ l i e. a l i.size i.octets (ap₂ ◌&&◌ i.padded (ap (λ (c : List ℕ). same_bytes c code) e
      ∙ bytes_same code))

  -- what it finds is right
  pub right : Right width rows table last code (band_of_code width rows table last code)
  unfolding band_of_code
  right = taken (search 255 (rows * row_bytes width) (written_so width rows table last code))
      (found 255 (rows * row_bytes width)
      (written_so width rows table last code))

-- the right reader: it finds the band that is written so
abbrev pub reading : Reader
reading = record { finds = band_of_code; right = right }

-- two bands of one size are never written as the same code from one table and last row, whatever the sizes
one-band : (width rows : ℕ) (table last : List ℕ) → OneBand width rows table last
one-band zero rows table last a b ia ib e = empty a b (ia.size ∙ mul-zero rows) (ib.size ∙ mul-zero rows)
  where
    empty : (a b : List ℕ) → length a ≡ 0 → length b ≡ 0 → a ≡ b
    empty [] [] h k = refl
    empty [] (y ∷ b) h k = absurd (omega arith)
    empty (x ∷ a) b h k = absurd (omega arith)
one-band (suc w) rows table last a b ia ib e = no-two (suc w) rows table last a b (omega arith) ia ib e

-- what is right of a code is what is found
pub right-found : (width rows : ℕ) (table last code : List ℕ) (f : Option (List ℕ))
    → Right width rows table last code f → f
    ≡ band_of_code width rows table last code
right-found width rows table last code f r =
    one_right width rows table last code (one-band width rows table last) f (band_of_code width rows table last code) r
    (right width rows table last code)

-- any right reader finds what this one finds
pub one_reader : (R : Reader) → R.finds ≡ band_of_code
one_reader R =
    fun_ext (λ width. fun_ext
    (λ rows. fun_ext (λ table. fun_ext (λ last. fun_ext (λ code. right-found width rows table last code
    (R.finds width rows table last code) (R.right width rows table last code))))))
