-- What a band leaves: a lawful table, and a last row without a stray bit. Assumes nothing.
use mathlib.Core.Path.{◌≡◌, refl, sym, ap, ◌∙◌, subst}
use mathlib.Core.Bool.{Bool, true, false, cond, ◌&&◌}
use mathlib.Core.List.{List, [], ◌∷◌, ◌++◌}
use Prim.Native.Nat.{ℕ, zero, suc, ◌-◌, ◌*◌, ◌%◌, ◌^◌, ◌≤◌}
use native.Mathlib.Nat.{suc-mul, zero-mod}
use native.Mathlib.Omega.{arith}
use lib.Dec.{eqb, leb}
use lib.ListN.{get_or, set, length, drop, replicate, length-drop, get_or-append}
use lib.Seq.{drop_at, length-take-le}
use borrow.Author.Tests.{leb-true, le-leb, eq-eqb}
use Rattle.coder.specs.Writing.{Stage, step, after, opening}
use Rattle.coder.specs.Page.{Page, context_of, entry_at, sense, taught, placed, move}
use Rattle.estimate.specs.Estimate.{index_of, next}
use Rattle.estimate.proofs.LawfulEntries.{next-lawful}
use Rattle.template.specs.Pels.{row_bytes, row_at, band_to, row_padded, band_padded}
use Rattle.limits.specs.Limits.{last_bytes}
use Rattle.band.specs.Band.{q_scheme, q_writer, q_page, page_at, white, last_row, written}
use Rattle.desk.proofs.OpenPages.{all-get}
use Rattle.desk.specs.Lawful.{all, low_indexes, is_zero, no_stray}
use Rattle.ground.proofs.Bools.{both, and-true}

-- ---- the table
all_set : {A : Type 0} (p : A → Bool) (s : List A) (i : ℕ) (a : A) → all p s ≡ true → p a ≡ true
    → all p (set s i a) ≡ true
unfolding all
all_set p [] i a h k = h
all_set p (x ∷ s) zero a h k = and-true (p a) (all p s) k (both (p x) (all p s) h).1
all_set p (x ∷ s) (suc i) a h k =
    and-true (p x) (all p (set s i a)) (both (p x) (all p s) h).0 (all_set p s i a (both (p x) (all p s) h).1 k)

abbrev low_index : ℕ → Bool
low_index e = leb (index_of e) 29

entry_next : (b : Bool) (e : ℕ) → low_index e ≡ true → low_index (next b e) ≡ true
entry_next b e h = le-leb (index_of (next b e)) 29 (next-lawful b e (leb-true (index_of e) 29 h))

module _ (width : ℕ) where
  placed-table : (table above this : List ℕ) → (placed q_scheme width table above this).table ≡ table
  unfolding placed
  placed-table table above this = go (eqb (length this) width)
    where
      go : (b : Bool) → (cond {A = Page} b (record { table = table; above = this; this = [] })
          (record { table = table; above = above; this = this })).table ≡ table
      go true = refl
      go false = refl

  taught-lawful : (m : Page) (p : ℕ) (b : Bool) → low_indexes m.table ≡ true
      → low_indexes (taught q_scheme width m p b) ≡ true
  unfolding taught entry_at
  taught-lawful m p true h =
      all_set low_index m.table (context_of q_scheme width m) _ h
      (entry_next (eqb p (sense q_scheme width m)) (get_or m.table (context_of q_scheme width m) 0)
      (all-get low_index m.table (context_of q_scheme width m) 0 h refl))
  taught-lawful m p false h = h

  after-lawful : (ps : List ℕ) (s : Stage (q_page width) q_writer) → low_indexes s.model.table ≡ true
      → low_indexes (after (q_page width) q_writer s ps).model.table ≡ true
  unfolding after move
  after-lawful [] s h = h
  after-lawful (p ∷ ps) s h =
      after-lawful ps (step (q_page width) q_writer s p)
      (subst (λ (t : List ℕ). low_indexes t ≡ true)
      (sym (placed-table (taught q_scheme width s.model p _) s.model.above (s.model.this ++ (p ∷ []))))
      (taught-lawful s.model p _ h))

-- the table after a band is lawful where the table before it was
pub written_low : (width rows : ℕ) (table last band : List ℕ) → low_indexes table ≡ true
    → low_indexes (written width rows table last band).table ≡ true
unfolding written
written_low width rows table last band h =
    after-lawful width (band_to width band rows)
    (opening (q_page width) q_writer (page_at width table last)) h

-- ---- the last row
zero-all : (n : ℕ) → is_zero (replicate n 0) ≡ true
unfolding all
zero-all zero = refl
zero-all (suc n) = zero-all n

zero-drop : (n k : ℕ) → is_zero (drop k (replicate n 0)) ≡ true
unfolding all
zero-drop n zero = zero-all n
zero-drop zero (suc k) = refl
zero-drop (suc n) (suc k) = zero-drop n k

pub zero-get : (n i : ℕ) → get_or (replicate n 0) i 0 ≡ zero
zero-get zero i = refl
zero-get (suc n) zero = refl
zero-get (suc n) (suc i) = zero-get n i

padded-zero : (n w : ℕ) → row_padded w (replicate n 0) ≡ true
unfolding row_padded
padded-zero n w = eq-eqb (get_or (replicate n 0) (row_bytes w - 1) 0 % 2 ^ (8 * row_bytes w - w)) 0
    (ap (λ (k : ℕ). k % 2 ^ (8 * row_bytes w - w)) (zero-get n (row_bytes w - 1)) ∙ zero-mod (2 ^ (8 * row_bytes w - w)))

-- a new page's last row has no stray bit
pub white-clear : (width : ℕ) → no_stray width white ≡ true
unfolding no_stray white
white-clear width = and-true (row_padded width (replicate last_bytes 0))
    (is_zero (drop (row_bytes width) (replicate last_bytes 0))) (padded-zero last_bytes width)
    (zero-drop last_bytes (row_bytes width))

-- nor has the last row of a band whose padding bits are zero
pub last-clear : (width rows : ℕ) (band : List ℕ) → 1 ≤ width → 1 ≤ rows → length band ≡ rows * row_bytes width
    → band_padded width band rows ≡ true → no_stray width (last_row width rows band) ≡ true
unfolding no_stray last_row band_padded row_padded
last-clear width zero band w r l h = absurd (omega arith)
last-clear width (suc n) band w r l h =
    subst (λ (m : ℕ). (row_padded width (row_at width band m ++ rest)
    && is_zero (drop (row_bytes width) (row_at width band m ++ rest))) ≡ true) less
    (and-true (row_padded width (row ++ rest)) (is_zero (drop (row_bytes width) (row ++ rest)))
    (rw (get_or-append row rest 0 (row_bytes width - 1) (omega (arith, wide)))
    (both (band_padded width band n) (row_padded width row) h).1)
    (rw (drop_at row rest (row_bytes width) wide) (zero-all (last_bytes - row_bytes width))))
  where
    less : n ≡ suc n - 1
    less = omega arith

    row : List ℕ
    row = row_at width band n

    rest : List ℕ
    rest = replicate (last_bytes - row_bytes width) 0

    wide : length row ≡ row_bytes width
    wide = length-take-le (row_bytes width) (drop (n * row_bytes width) band)
        (rw length-drop (omega (arith, suc-mul n (row_bytes width))))
