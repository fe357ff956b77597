-- The highest byte decides whether all are low, or all zero. Assumes nothing.
use Prim.Native.Nat.{ℕ, max, ◌+◌, ◌/◌, ◌≤◌, ◌<◌}
use native.Mathlib.Omega.{arith}
use native.Mathlib.Numerals.{add-one}
use mathlib.Core.Path.{◌≡◌, refl, sym, ap, ◌∙◌}
use mathlib.Core.Bool.{Bool, true, false, cond, ◌&&◌}
use mathlib.Core.List.{List, [], ◌∷◌}
use lib.Dec.{leb, eqb}
use lib.ListN.{length, drop, get_or, drop_of_length-le}
use lib.Seq.{drop-cons}
use borrow.Author.Tests.{leb-true, leb-false, le-leb, lt-leb, eq-eqb, ne_eqb}
use Rattle.estimate.specs.Estimate.{index_of}
use Rattle.desk.specs.Lawful.{all, low_indexes, is_zero}
use Rattle.lawful.specs.Highest.{highest_from, low, top_entry}

higher-low : (n h x : ℕ) → leb (max h x) n ≡ (leb h n && leb x n)
higher-low n h x = go (leb h n) (leb x n) refl refl
  where
    go : (a b : Bool) → leb h n ≡ a → leb x n ≡ b → leb (max h x) n ≡ (a && b)
    go true true f g = let k = leb-true h n f in let l = leb-true x n g in le-leb (max h x) n (omega arith)
    go true false f g = let l = leb-false x n g in lt-leb (max h x) n (omega arith)
    go false b f g = let k = leb-false h n f in lt-leb (max h x) n (omega arith)

-- the highest is at most n where all are
highest-low : (n h : ℕ) (xs : List ℕ) → leb (highest_from h xs) n ≡ (leb h n && low n xs)
unfolding highest_from all
highest-low n h [] = with-true (leb h n)
  where
    with-true : (b : Bool) → b ≡ (b && true)
    with-true true = refl
    with-true false = refl
highest-low n h (x ∷ xs) = highest-low n (max h x) xs ∙ ap (λ (b : Bool). b && low n xs) (higher-low n h x)
    ∙ assoc (leb h n) (leb x n) (low n xs)
  where
    assoc : (a b c : Bool) → ((a && b) && c) ≡ (a && (b && c))
    assoc true b c = refl
    assoc false b c = refl

pub all-low : (n : ℕ) (xs : List ℕ) → leb (highest_from 0 xs) n ≡ low n xs
all-low n xs = highest-low n 0 xs ∙ ap (λ (b : Bool). b && low n xs) (le-leb 0 n (omega arith))

-- ---- what it decides: indexes of at most 29, and zero
pub entries-low : (xs : List ℕ) → low 59 xs ≡ low_indexes xs
entries-low xs = ap (λ (test : ℕ → Bool). all test xs) (λ i x. half x i)
  where
    half : (x : ℕ) → leb x 59 ≡ leb (index_of x) 29
    half x = go (leb x 59) refl
      where
        go : (b : Bool) → leb x 59 ≡ b → leb x 59 ≡ leb (x / 2) 29
        go true e = let k = leb-true x 59 e in e ∙ sym (le-leb (x / 2) 29 (omega arith))
        go false e = let k = leb-false x 59 e in e ∙ sym (lt-leb (x / 2) 29 (omega arith))

pub zero-low : (xs : List ℕ) → low 0 xs ≡ is_zero xs
zero-low xs = ap (λ (test : ℕ → Bool). all test xs) (λ i x. none x i)
  where
    none : (x : ℕ) → leb x 0 ≡ eqb x 0
    none x = go (leb x 0) refl
      where
        go : (b : Bool) → leb x 0 ≡ b → leb x 0 ≡ eqb x 0
        go true e = let k = leb-true x 0 e in e ∙ sym (eq-eqb x 0 (omega arith))
        go false e = let k = leb-false x 0 e in e ∙ sym (ne_eqb x 0 (λ z. omega arith))

pub table-low : (state : ℕ) (xs : List ℕ) → low (top_entry state) xs ≡ cond (eqb state 2) (low_indexes xs) (is_zero xs)
table-low state xs = go (eqb state 2)
  where
    go : (b : Bool) → low (cond b 59 0) xs ≡ cond b (low_indexes xs) (is_zero xs)
    go true = entries-low xs
    go false = zero-low xs

-- ---- a loop that has come to the i-th, with the highest so far
pub record Highest (top : ℕ) (xs : List ℕ) (i : ℕ) : Type 0 where
  pub rest : highest_from top (drop i xs) ≡ highest_from 0 xs

module _ {top : ℕ} {xs : List ℕ} {i : ℕ} (s : Highest top xs i) where
  pub highest-next : (t : ℕ) → i < length xs → t ≡ max top (get_or xs i 0) → Highest t xs (i + 1)
  unfolding highest_from
  highest-next t h e = record { rest = rw e (rw add-one (rw (drop-cons xs i 0 h) at s.rest)) }

  pub highest-end : length xs ≤ i → top ≡ highest_from 0 xs
  unfolding highest_from
  highest-end h = rw (drop_of_length-le xs h) at s.rest
