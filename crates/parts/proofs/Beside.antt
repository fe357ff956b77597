-- Two lists side by side: one put, one read, each read off again; and a test of what is read off. Assumes nothing.
use Prim.Native.Nat.{ℕ, zero, suc}
use native.Mathlib.Omega.{arith}
use mathlib.Core.Path.{◌≡◌, refl, ap, ap₂}
use mathlib.Core.Bool.{Bool}
use mathlib.Core.List.{List, [], ◌∷◌, map}
use lib.ListN.{length, get_or, set}
use Rattle.parts.specs.Parts.{beside}
use Rattle.desk.specs.Places.{find_by}
use Rattle.desk.specs.Lawful.{any}

one_less : {m n : ℕ} → suc m ≡ suc n → m ≡ n
one_less e = omega arith

-- ---- two lists side by side
module _ {A B C : Type 0} (f : A → B → C) where
  pub set-beside : (xs : List A) (ys : List B) (i : ℕ) (x : A) (y : B) → beside f (set xs i x) (set ys i y) ≡ set
      (beside f xs ys) i (f x y)
  unfolding beside
  set-beside [] ys i x y = refl
  set-beside (a ∷ xs) [] zero x y = refl
  set-beside (a ∷ xs) [] (suc i) x y = refl
  set-beside (a ∷ xs) (b ∷ ys) zero x y = refl
  set-beside (a ∷ xs) (b ∷ ys) (suc i) x y = ap (λ (cs : List C). f a b ∷ cs) (set-beside xs ys i x y)

  pub get-beside : (xs : List A) (ys : List B) (i : ℕ) (x : A) (y : B) → length xs ≡ length ys
      → get_or (beside f xs ys) i (f x y) ≡ f (get_or xs i x) (get_or ys i y)
  unfolding beside
  get-beside [] [] i x y e = refl
  get-beside [] (b ∷ ys) i x y e = absurd (omega arith)
  get-beside (a ∷ xs) [] i x y e = absurd (omega arith)
  get-beside (a ∷ xs) (b ∷ ys) zero x y e = refl
  get-beside (a ∷ xs) (b ∷ ys) (suc i) x y e = get-beside xs ys i x y (one_less e)

  pub length-beside : (xs : List A) (ys : List B) → length xs ≡ length ys → length (beside f xs ys) ≡ length xs
  unfolding beside
  length-beside [] ys e = refl
  length-beside (a ∷ xs) [] e = absurd (omega arith)
  length-beside (a ∷ xs) (b ∷ ys) e = ap suc (length-beside xs ys (one_less e))

  -- each of them can be read off
  pub left-beside : (g : C → A) → ((x : A) (y : B) → g (f x y) ≡ x) → (xs : List A) (ys : List B)
      → length xs ≡ length ys → map g
      (beside f xs ys) ≡ xs
  unfolding beside
  left-beside g k [] ys e = refl
  left-beside g k (a ∷ xs) [] e = absurd (omega arith)
  left-beside g k (a ∷ xs) (b ∷ ys) e =
      ap₂ (λ (z : A) (zs : List A). z ∷ zs) (k a b) (left-beside g k xs ys (one_less e))

  pub right-beside : (h : C → B) → ((x : A) (y : B) → h (f x y) ≡ y) → (xs : List A) (ys : List B)
      → length xs ≡ length ys → map h
      (beside f xs ys) ≡ ys
  unfolding beside
  right-beside h k [] [] e = refl
  right-beside h k [] (b ∷ ys) e = absurd (omega arith)
  right-beside h k (a ∷ xs) [] e = absurd (omega arith)
  right-beside h k (a ∷ xs) (b ∷ ys) e =
      ap₂ (λ (z : B) (zs : List B). z ∷ zs) (k a b) (right-beside h k xs ys (one_less e))

pub map-twice : {A B C : Type 0} (g : C → B) (h : B → A) (cs : List C) → map (λ c. h (g c)) cs ≡ map h (map g cs)
map-twice g h [] = refl
map-twice {A = A} g h (c ∷ cs) = ap (λ (xs : List A). h (g c) ∷ xs) (map-twice g h cs)

-- ---- a test of what is read off each element
module _ {A C : Type 0} (g : C → A) where
  pub find-map : (test : A → Bool) (cs : List C) (i : ℕ) → find_by (λ c. test (g c)) cs i ≡ find_by test (map g cs) i
  unfolding find_by
  find-map test [] i = refl
  find-map test (c ∷ cs) i = rw (find-map test cs (suc i))

  pub any-map : (test : A → Bool) (cs : List C) → any (λ c. test (g c)) cs ≡ any test (map g cs)
  unfolding any
  any-map test [] = refl
  any-map test (c ∷ cs) = rw (any-map test cs)
