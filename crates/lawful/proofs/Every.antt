-- What a loop over an array has left to test: at an element that decides, past one that does not, and past all. Assumes
-- nothing.
use Prim.Native.Nat.{ℕ, ◌+◌, ◌≤◌, ◌<◌}
use mathlib.Core.Path.{◌≡◌}
use native.Mathlib.Numerals.{add-one}
use mathlib.Core.Bool.{Bool, true, false, ◌&&◌}
use mathlib.Core.List.{List}
use lib.ListN.{length, drop, get_or, drop_of_length-le}
use lib.Seq.{drop-cons}
use Rattle.lawful.specs.Every.{each}

-- a test of all elements that has come to the i-th; X is the answer sought
pub record Left {A : Type 0} (right : A → List A → Bool) (X : Bool) (xs : List A) (i : ℕ) : Type 0 where
  pub rest : each right (drop i xs) ≡ X

module _ {A : Type 0} {right : A → List A → Bool} {X : Bool} {xs : List A} {i : ℕ} (s : Left right X xs i) where
  -- d is what an index past the end reads
  module _ (d : A) (h : i < length xs) where
    here : (right (get_or xs i d) (drop (i + 1) xs) && each right (drop (i + 1) xs)) ≡ X
    unfolding each
    here = rw add-one (rw (drop-cons xs i d h) at s.rest)

    pub each-failed : right (get_or xs i d) (drop (i + 1) xs) ≡ false → false ≡ X
    each-failed t = rw t at here

    pub each-passed : right (get_or xs i d) (drop (i + 1) xs) ≡ true → Left right X xs (i + 1)
    each-passed t = record { rest = rw t at here }

  pub each-end : length xs ≤ i → true ≡ X
  unfolding each
  each-end h = rw (drop_of_length-le xs h) at s.rest
