-- Rows of structs: what is found from the front, and what a change at the index found leaves. Assumes nothing.
use mathlib.Core.Path.{◌≡◌, refl, sym, ap, ◌∙◌}
use mathlib.Core.Bool.{Bool, true, false, cond, ◌||◌}
use mathlib.Core.List.{List, [], ◌∷◌}
use mathlib.Core.Option.{Option, some, none}
use Prim.Native.Nat.{ℕ, suc, ◌+◌}
use native.Mathlib.Omega.{arith}
use lib.ListN.{get_or, set}
use Rattle.ground.specs.Options.{given}
use Rattle.ground.proofs.Bools.{no_way, both, and-true}
use Rattle.turns.proofs.SlotRows.{at_first}
use Rattle.desk.specs.Places.{Found}
use Rattle.std.specs.Prelude.{Some, None}
use Rattle.desk.specs.Places.{find_by, is_found}
use Rattle.desk.specs.Changes.{set_at}
use Rattle.desk.specs.Lawful.{all, any}
use Rattle.desk.proofs.OpenPages.{found-any}

-- ---- the first that passes
unfoldable pub pick : {A : Type 0} → (A → Bool) → List A → Option A
pick t [] = none
pick t (x ∷ s) = cond (t x) (some x) (pick t s)

pub pick-passes : {A : Type 0} (t : A → Bool) (s : List A) (a : A) → pick t s ≡ some a → t a ≡ true
unfolding pick
pick-passes t [] a e = no_way (ap given (sym e))
pick-passes {A} t (x ∷ s) a e = go (t x) refl e (pick-passes t s a)
  where
    go : (b : Bool) → t x ≡ b → cond b (some x) (pick t s) ≡ some a → (pick t s ≡ some a → t a ≡ true) → t a ≡ true
    go true f e ih = let q : x ≡ a = cc in rw (← q) f
    go false f e ih = ih e

pub pick_all : {A : Type 0} (p t : A → Bool) (s : List A) (a : A) → all p s ≡ true → pick t s ≡ some a → p a ≡ true
unfolding pick all
pick_all p t [] a h e = no_way (ap given (sym e))
pick_all {A} p t (x ∷ s) a h e = go (t x) e (pick_all p t s a (both (p x) (all p s) h).1)
  where
    go : (b : Bool) → cond b (some x) (pick t s) ≡ some a → (pick t s ≡ some a → p a ≡ true) → p a ≡ true
    go true e ih = let q : x ≡ a = cc in rw (← q) (both (p x) (all p s) h).0
    go false e ih = ih e

pub pick-any : {A : Type 0} (t : A → Bool) (s : List A) → given (pick t s) ≡ any t s
unfolding pick any
pick-any t [] = refl
pick-any {A} t (x ∷ s) = go (t x) (pick-any t s)
  where
    go : (b : Bool) → given (pick t s) ≡ any t s → given (cond b (some x) (pick t s)) ≡ (b || any t s)
    go true ih = refl
    go false ih = ih

pub found-given : {A : Type 0} (t : A → Bool) (s : List A) (i : ℕ) → is_found (find_by t s i) ≡ given (pick t s)
found-given t s i = found-any t s i ∙ sym (pick-any t s)

-- what stands at the index found
abbrev pub value_at : {A : Type 0} → Found → List A → A → Option A
value_at (Some i) s z = some (get_or s i z)
value_at None s z = none

-- with the index written as an offset, so that nothing is subtracted
found_from : {A : Type 0} (t : A → Bool) (z a : A) (s : List A) (b i : ℕ) → find_by t s b ≡ Some i → (n : ℕ) × (i ≡ b + n)
    × (some (get_or s n z) ≡ pick t s) × (set s n a ≡ at_first t a s)
unfolding find_by at_first pick
found_from t z a [] b i e = no_way (ap is_found (sym e))
found_from {A} t z a (x ∷ s) b i e = go (t x) e (λ f. found_from t z a s (suc b) i f)
  where
    go : (v : Bool) → cond v (Some b) (find_by t s (suc b)) ≡ Some i
        → (find_by t s (suc b) ≡ Some i → (n : ℕ) × (i ≡ suc b + n) × (some (get_or s n z) ≡ pick t s)
        × (set s n a ≡ at_first t a s))
        → (n : ℕ) × (i ≡ b + n) × (some (get_or (x ∷ s) n z) ≡ cond v (some x) (pick t s))
        × (set (x ∷ s) n a ≡ cond v (a ∷ s) (x ∷ at_first t a s))
    go true f ih = let q : b ≡ i = cc in (0, omega arith, refl, refl)
    go false f ih = let (n, p, q, r) = ih f in (suc n, omega arith, q, ap (λ l. x ∷ l) r)

found_none : {A : Type 0} (t : A → Bool) (a : A) (s : List A) (b : ℕ) → find_by t s b ≡ None → (none ≡ pick t s)
    × (s ≡ at_first t a s)
unfolding find_by at_first pick
found_none t a [] b e = (refl, refl)
found_none {A} t a (x ∷ s) b e = go (t x) e (found_none t a s (suc b))
  where
    go : (v : Bool) → cond v (Some b) (find_by t s (suc b)) ≡ None → (find_by t s (suc b) ≡ None → (none ≡ pick t s)
        × (s ≡ at_first t a s))
        → (none ≡ cond v (some x) (pick t s)) × (x ∷ s ≡ cond v (a ∷ s) (x ∷ at_first t a s))
    go true f ih = no_way (ap is_found f)
    go false f ih = ((ih f).0, ap (λ l. x ∷ l) (ih f).1)

pub value_found : {A : Type 0} (t : A → Bool) (z : A) (s : List A) → value_at (find_by t s 0) s z ≡ pick t s
value_found {A} t z s = go (find_by t s 0) refl
  where
    go : (f : Found) → find_by t s 0 ≡ f → value_at f s z ≡ pick t s
    go (Some i) e = let (n, p, q, r) = found_from t z z s 0 i e in let f : i ≡ n = omega arith in rw f q
    go None e = (found_none t z s 0 e).0

pub set_found : {A : Type 0} (t : A → Bool) (a : A) (s : List A) → set_at (find_by t s 0) a s ≡ at_first t a s
set_found {A} t a s = go (find_by t s 0) refl
  where
    go : (f : Found) → find_by t s 0 ≡ f → set_at f a s ≡ at_first t a s
    go (Some i) e = let (n, p, q, r) = found_from t a a s 0 i e in let f : i ≡ n = omega arith in rw f r
    go None e = (found_none t a s 0 e).1

-- ---- a change at the first that passes
pub all_first : {A : Type 0} (p t : A → Bool) (a : A) (s : List A) → all p s ≡ true → p a ≡ true
    → all p (at_first t a s) ≡ true
unfolding at_first all
all_first p t a [] h k = refl
all_first {A} p t a (x ∷ s) h k = go (t x) (all_first p t a s (both (p x) (all p s) h).1 k)
  where
    go : (b : Bool) → all p (at_first t a s) ≡ true → all p (cond b (a ∷ s) (x ∷ at_first t a s)) ≡ true
    go true ih = and-true (p a) (all p s) k (both (p x) (all p s) h).1
    go false ih = and-true (p x) (all p (at_first t a s)) (both (p x) (all p s) h).0 ih
