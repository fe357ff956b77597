-- What a test chooses, shown by the test. Assumes nothing.
use mathlib.Core.Path.{◌≡◌, refl, subst}
use mathlib.Core.Logic.{◌≢◌, ◌⊎◌, inl, inr}
use Prim.Native.Nat.{ℕ, ◌≤◌, ◌<◌}
use mathlib.Core.Bool.{Bool, true, false, cond, not}
use lib.Dec.{T, ltb, eqb, eqb→eq, eqb_refl, not_T, T_not, lt→ltb}
use lib.Arith.{le→nltb}

pub by_cond : {A : Type 0} (P : A → Type 0) (b : Bool) (x y : A) → (T b → P x) → (T (not b) → P y) → P (cond b x y)
by_cond P true x y f g = f tt
by_cond P false x y f g = g tt

cond-true : {A : Type 0} (b : Bool) (x y : A) → T b → cond b x y ≡ x
cond-true true x y h = refl
cond-true false x y h = absurd h

cond-false : {A : Type 0} (b : Bool) (x y : A) → T (not b) → cond b x y ≡ y
cond-false true x y h = absurd h
cond-false false x y h = refl

pub either : (b : Bool) → T b ⊎ T (not b)
either true = inl tt
either false = inr tt

pub neqb→ne : (m n : ℕ) → T (not (eqb m n)) → m ≢ n
neqb→ne m n h e = T_not (eqb m n) h (subst (λ (k : ℕ). T (eqb m k)) e (eqb_refl m))

ne→neqb : (m n : ℕ) → m ≢ n → T (not (eqb m n))
ne→neqb m n h = not_T (eqb m n) (λ t. h (eqb→eq m n t))

eq→eqb : (m n : ℕ) → m ≡ n → T (eqb m n)
eq→eqb m n e = subst (λ (k : ℕ). T (eqb m k)) e (eqb_refl m)

pub same? : (m n : ℕ) → (m ≡ n) ⊎ (m ≢ n)
same? m n = go (either (eqb m n))
  where
    go : T (eqb m n) ⊎ T (not (eqb m n)) → (m ≡ n) ⊎ (m ≢ n)
    go (inl t) = inl (eqb→eq m n t)
    go (inr t) = inr (neqb→ne m n t)

-- a choice by an equality test, and by an order test
pub if-eq : {A : Type 0} (m n : ℕ) (x y : A) → m ≡ n → cond (eqb m n) x y ≡ x
if-eq m n x y e = cond-true (eqb m n) x y (eq→eqb m n e)

pub if-ne : {A : Type 0} (m n : ℕ) (x y : A) → m ≢ n → cond (eqb m n) x y ≡ y
if-ne m n x y e = cond-false (eqb m n) x y (ne→neqb m n e)

pub if-lt : {A : Type 0} (m n : ℕ) (x y : A) → m < n → cond (ltb m n) x y ≡ x
if-lt m n x y h = cond-true (ltb m n) x y (lt→ltb m n h)

pub if-ge : {A : Type 0} (m n : ℕ) (x y : A) → n ≤ m → cond (ltb m n) x y ≡ y
if-ge m n x y h = cond-false (ltb m n) x y (le→nltb m n h)

pub by-cond₂ : {A B : Type 0} (P : A → B → Type 0) (b : Bool) (x y : A) (x' y' : B) → (T b → P x x')
    → (T (not b) → P y y') → P (cond b x y) (cond b x' y')
by-cond₂ P true x y x' y' f g = f tt
by-cond₂ P false x y x' y' f g = g tt
