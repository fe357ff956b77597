-- A call that is not refused passed every test. Assumes nothing.
use mathlib.Core.Path.{◌≡◌, refl, sym, ◌∙◌}
use mathlib.Core.Bool.{Bool, true, false, cond, not, ◌&&◌}
use mathlib.Core.List.{List, [], ◌∷◌}
use Prim.Native.Nat.{ℕ}
use lib.Dec.{eqb}
use borrow.Author.Tests.{eq-eqb}
use Rattle.ground.proofs.Bools.{no_way, both, not-false}
use Rattle.desk.specs.Refusals.{Row, refusal}

-- no test gives the number 0
abbrev pub numbered : List Row → Bool
numbered [] = true
numbered (r ∷ rs) = not (eqb r.number 0) && numbered rs

-- the first test of the number n; the first of that number after one of the number m
abbrev pub test_of : ℕ → List Row → Bool
test_of n [] = false
test_of n (r ∷ rs) = cond (eqb r.number n) r.holds (test_of n rs)

abbrev pub test_after : ℕ → ℕ → List Row → Bool
test_after m n [] = false
test_after m n (r ∷ rs) = cond (eqb r.number m) (test_of n rs) (test_after m n rs)

-- it did not hold, and no later test either
first : (r : Row) (rs : List Row) → numbered (r ∷ rs) ≡ true → refusal (r ∷ rs) ≡ 0 → (r.holds ≡ false)
    × (refusal rs ≡ 0)
unfolding refusal
first r rs n e = go r.holds refl e
  where
    go : (b : Bool) → r.holds ≡ b → cond b r.number (refusal rs) ≡ 0 → (r.holds ≡ false) × (refusal rs ≡ 0)
    go true f e = no_way (sym (eq-eqb r.number 0 e) ∙ not-false (eqb r.number 0)
        (both (not (eqb r.number 0)) (numbered rs) n).0)
    go false f e = (f, e)

pub passed : (n : ℕ) (rs : List Row) → numbered rs ≡ true → refusal rs ≡ 0 → test_of n rs ≡ false
passed n [] g e = refl
passed n (r ∷ rs) g e = go (eqb r.number n) (first r rs g e)
    (λ f. passed n rs (both (not (eqb r.number 0)) (numbered rs) g).1 f)
  where
    go : (b : Bool) → (r.holds ≡ false) × (refusal rs ≡ 0) → (refusal rs ≡ 0 → test_of n rs ≡ false)
        → cond b r.holds (test_of n rs) ≡ false
    go true p ih = p.0
    go false p ih = ih p.1

pub passed-after : (m n : ℕ) (rs : List Row) → numbered rs ≡ true → refusal rs ≡ 0 → test_after m n rs ≡ false
passed-after m n [] g e = refl
passed-after m n (r ∷ rs) g e =
    let p = first r rs g e in
    let h = (both (not (eqb r.number 0)) (numbered rs) g).1 in
    go (eqb r.number m) (passed n rs h p.1) (passed-after m n rs h p.1)
  where
    go : (b : Bool) → test_of n rs ≡ false → test_after m n rs ≡ false → cond b (test_of n rs) (test_after m n rs) ≡ false
    go true p q = p
    go false p q = q
