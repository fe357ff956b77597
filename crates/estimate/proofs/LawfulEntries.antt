-- What holds of every row: its value is 1 to AC1 hex, and the next entries of a lawful entry are lawful. Assumes
-- nothing.
use mathlib.Core.Path.{◌≡◌, sym, ap, subst}
use mathlib.Core.Logic.{◌≢◌}
use Prim.Native.Nat.{ℕ, zero, ◌+◌, ◌-◌, ◌*◌, ◌/◌, ◌%◌, ◌≤◌, ◌<◌}
use native.Mathlib.Omega.{arith}
use native.Mathlib.Decide.{dec_lt}
use mathlib.Core.Bool.{Bool, true, false, ◌&&◌, ◌||◌}
use lib.ListN.{get_or, replicate, get_or-replicate, get_or-eq_default}
use lib.Dec.{T, leb, ltb, eqb, leb→le, nltb→le}
use borrow.Author.Tests.{eq-eqb, ne_eqb}
use Rattle.ground.proofs.Tests.{by_cond, neqb→ne}
use Rattle.ground.proofs.Tables.{at_each, and_left, and_right}
use Rattle.limits.specs.Limits.{contexts}
use Rattle.estimate.specs.Estimate.{rows, row_of, rise, fall, flip, next, index_of, sense_of, fresh, LawfulEntry}

-- ---- the values
in_range : ℕ → ℕ → Bool
in_range i q = leb 1 q && leb q 0xAC1

pub record Sized (q : ℕ) : Type 0 where
  pub some : 1 ≤ q
  pub small : q ≤ 0xAC1

sized-by : (q : ℕ) → T (leb 1 q && leb q 0xAC1) → Sized q
sized-by q t =
    record {
      some = leb→le 1 q (and_left (leb 1 q) (leb q 0xAC1) t);
      small = leb→le q 0xAC1 (and_right (leb 1 q) (leb q 0xAC1) t);
    }

pub row_sized : (e : ℕ) → Sized (row_of e)
unfolding row_of in_range
row_sized e = go (dec_lt (index_of e) 30)
  where
    go : Dec (index_of e < 30) → Sized (get_or rows (index_of e) 1)
    go (yes h) = sized-by (get_or rows (index_of e) 1) (at_each in_range 1 rows tt (index_of e) h)
    go (no h) = subst Sized (sym (get_or-eq_default rows 1 {n = index_of e} (omega arith)))
        (record { some = omega arith; small = omega arith })

-- ---- the next entries
rise-lawful : (e : ℕ) → LawfulEntry (next true e)
unfolding next rise
rise-lawful e = omega arith

flip-bit : (i s : ℕ) → s ≤ 1 → flip i s ≤ 1
unfolding flip
flip-bit i s h = by_cond (λ (k : ℕ). k ≤ 1) (lib.Dec.eqb i 0) (1 - s) s (λ t. omega arith) (λ t. h)

fall-lawful : (e : ℕ) → LawfulEntry e → LawfulEntry (next false e)
unfolding next
fall-lawful e h = omega (arith, flip-bit (index_of e) (sense_of e) (omega arith))

pub next-lawful : (b : Bool) (e : ℕ) → LawfulEntry e → LawfulEntry (next b e)
next-lawful true e h = rise-lawful e
next-lawful false e h = fall-lawful e h

-- the cases, as a program meets them
pub next-rise : (e : ℕ) → e / 2 < 29 → e + 2 ≡ next true e
unfolding next rise
next-rise e h = omega arith

pub next-top : (e : ℕ) → LawfulEntry e → 29 ≤ e / 2 → e ≡ next true e
unfolding next rise
next-top e h k = omega arith

pub next-flip : (e : ℕ) → e / 2 ≡ 0 → 1 - e ≡ next false e
unfolding next flip
next-flip e h = rw (eq-eqb (e / 2) 0 h) (omega arith)

-- no row falls below 0
fall-small : (i : ℕ) → fall i ≤ i
unfolding fall
fall-small i =
    by_cond (λ (f : ℕ). f ≤ i) (eqb i 0) _ _ (λ t. omega arith)
    (λ z. let n : i ≢ 0 = neqb→ne i 0 z in
    by_cond (λ (f : ℕ). f ≤ i) (ltb i 7) _ _ (λ t. some i n)
    (λ t. let h : 7 ≤ i = nltb→le i 7 t in
    by_cond (λ (f : ℕ). f ≤ i) ((eqb i 24 || eqb i 26) || eqb i 28) _ _ (λ y. omega arith) (λ y. omega arith)))
  where
    some : (i : ℕ) → i ≢ 0 → 1 ≤ i
    some i n = omega arith

pub next-fall : (e f : ℕ) → f ≡ 2 * fall (e / 2) → (e / 2 ≡ 0 → ⊥) → (f ≤ e) × (e - f ≡ next false e)
unfolding next flip
next-fall e f h k = let l : fall (e / 2) ≤ e / 2 = fall-small (e / 2) in
    (omega arith, rw (ne_eqb (e / 2) 0 k) (omega arith))

-- ---- tables
-- A fresh table has 128 contexts, every one index 0 and sense 0.
pub fresh-entry : (cx : ℕ) → cx < contexts → (index_of (get_or fresh cx 0) ≡ 0) × (sense_of (get_or fresh cx 0) ≡ 0)
unfolding fresh
fresh-entry cx h =
    let e : get_or (replicate contexts 0) cx 0 ≡ zero = get_or-replicate contexts cx 0 0 h in
    (ap (λ (x : ℕ). x / 2) e, ap (λ (x : ℕ). x % 2) e)
