-- The bytes that were compared: some after others, and all of them agreed exactly when they are the code. Assumes
-- nothing.
use mathlib.Core.Path.{◌≡◌, refl, sym, ap, ap₂, ◌∙◌}
use Prim.Native.Nat.{ℕ, zero, suc, ◌+◌, ◌-◌, ◌≤◌, ◌<◌}
use native.Mathlib.Nat.{add-suc, suc-add, add-zero}
use native.Mathlib.Omega.{arith}
use mathlib.Core.Bool.{Bool, true, false, ◌&&◌}
use mathlib.Core.List.{List, [], ◌∷◌, ◌++◌}
use lib.ListN.{get_or, length, take, drop, drop_of_length-le}
use lib.Seq.{length-take-le, take-suc, drop-cons}
use lib.Dec.{ltb, eqb}
use borrow.Author.Tests.{ltb-true, eqb-true, lt-ltb, eq-eqb}
use Rattle.ground.proofs.Bools.{both}
use Rattle.engine.specs.Followed.{match_at, matches}

pub match-first : (code : List ℕ) (at b : ℕ) → at ≡ 0 → true ≡ match_at code at b
unfolding match_at
match-first code zero b e = refl
match-first code (suc n) b e = absurd (omega arith)

pub match-later : (code : List ℕ) (at b : ℕ) (r : Bool) → (at ≡ 0 → ⊥)
    → (ltb (at - 1) (length code) && eqb (get_or code (at - 1) 0) b) ≡ r → r ≡ match_at code at b
unfolding match_at
match-later code zero b r h e = absurd (h refl)
match-later code (suc n) b r h e = sym e ∙ ap (λ (k : ℕ). ltb k (length code) && eqb (get_or code k 0) b) (less n)
  where
    less : (n : ℕ) → suc n - 1 ≡ n
    less n = omega arith

pub with-true : (g : Bool) → (g && true) ≡ g
with-true true = refl
with-true false = refl

pub and_assoc : (a b c : Bool) → ((a && b) && c) ≡ (a && (b && c))
and_assoc true b c = refl
and_assoc false b c = refl

pub matches-append : (code : List ℕ) (at : ℕ) (xs ys : List ℕ) → matches code at (xs ++ ys)
    ≡ (matches code at xs && matches code (at + length xs) ys)
unfolding matches
matches-append code at [] ys = ap (λ (k : ℕ). matches code k ys) (sym (add-zero at))
matches-append code at (x ∷ xs) ys =
    ap (λ (b : Bool). match_at code at x && b) (matches-append code (suc at) xs ys
    ∙ ap (λ (k : ℕ). matches code (suc at) xs && matches code k ys) (suc-add at (length xs)
    ∙ sym (add-suc at (length xs))))
    ∙ sym (and_assoc (match_at code at x) (matches code (suc at) xs) (matches code (at + suc (length xs)) ys))

-- one byte more of a list
pub matches-next : (code xs : List ℕ) (at i : ℕ) (good same same' : Bool) → i < length xs
    → same ≡ (good && matches code at (take i xs)) → same' ≡ (same && matches code (at + i) (get_or xs i 0 ∷ []))
    → same' ≡ (good && matches code at (take (suc i) xs))
matches-next code xs at i good same same' h e f =
    let l : length (take i xs) ≡ i = length-take-le i xs (omega arith) in
    f ∙ ap₂ (λ (b : Bool) (k : ℕ). b && matches code (at + k) (get_or xs i 0 ∷ [])) e (sym l) ∙ and_assoc good
    (matches code at (take i xs)) (matches code (at + length (take i xs)) (get_or xs i 0 ∷ []))
    ∙ ap (λ (b : Bool). good && b) (sym (matches-append code at (take i xs) (get_or xs i 0 ∷ [])) ∙ ap (matches code at)
    (sym (take-suc xs i 0 h)))

-- ---- all of them
same_from : (code : List ℕ) (n : ℕ) (bs : List ℕ) → matches code (suc n) bs ≡ true → n + length bs ≡ length code
    → drop n code ≡ bs
unfolding matches match_at
same_from code n [] e l = drop_of_length-le code {i = n} (omega arith)
same_from code n (b ∷ bs) e l =
    let k = both (ltb n (length code) && eqb (get_or code n 0) b) (matches code (suc (suc n)) bs) e in
    let m = both (ltb n (length code)) (eqb (get_or code n 0) b) k.0 in
    drop-cons code n 0 (ltb-true n (length code) m.0) ∙ ap₂ (λ (x : ℕ) (xs : List ℕ). x ∷ xs)
    (eqb-true (get_or code n 0) b m.1) (same_from code (suc n) bs k.1 (omega arith))

from-same : (code : List ℕ) (n : ℕ) (bs : List ℕ) → drop n code ≡ bs → n + length bs ≡ length code
    → matches code (suc n) bs ≡ true
unfolding matches match_at
from-same code n [] e l = refl
from-same code n (b ∷ bs) e l =
    let h : n < length code = omega arith in
    let k : get_or code n 0 ∷ drop (suc n) code ≡ b ∷ bs = sym (drop-cons code n 0 h) ∙ e in
    rw (lt-ltb n (length code) h, eq-eqb (get_or code n 0) b (ap (λ (xs : List ℕ). get_or xs 0 0) k))
    (from-same code (suc n) bs (ap (λ (xs : List ℕ). drop 1 xs) k) (omega arith))

-- all of them agreed, and there are as many as the code has
pub agreed : (code all : List ℕ) → 1 ≤ length all → (matches code 0 all && eqb (length all - 1) (length code)) ≡ true
    → drop 1 all ≡ code
unfolding matches match_at
agreed code [] h e = absurd (omega arith)
agreed code (z ∷ bs) h e =
    let k = both (matches code 1 bs) (eqb (suc (length bs) - 1) (length code)) e in
    sym (same_from code 0 bs k.0 (omega (arith, eqb-true (suc (length bs) - 1) (length code) k.1)))

pub agrees : (code all : List ℕ) → 1 ≤ length all → drop 1 all ≡ code
    → (matches code 0 all && eqb (length all - 1) (length code)) ≡ true
unfolding matches match_at
agrees code [] h e = absurd (omega arith)
agrees code (z ∷ bs) h e =
    let l : length bs ≡ length code = ap length e in
    rw (from-same code 0 bs (sym e) (omega arith), eq-eqb (suc (length bs) - 1) (length code) (omega arith)) refl
