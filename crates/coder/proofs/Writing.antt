-- Pels written after other pels are written as both lists joined. Assumes nothing.
use mathlib.Core.Path.{◌≡◌, refl}
use Prim.Native.Nat.{ℕ, ◌≤◌}
use mathlib.Core.List.{List, [], ◌∷◌, ◌++◌}
use Rattle.coder.specs.Writing.{Writer, Model, Stage, step, after}

module _ (A : Model) (W : Writer) where
  -- one list of pels after another
  pub after-append : (ps qs : List ℕ) (s : Stage A W) → after A W s (ps ++ qs) ≡ after A W (after A W s ps) qs
  unfolding after
  after-append [] qs s = refl
  after-append (p ∷ ps) qs s = after-append ps qs (step A W s p)

-- a list of pels: each is 0 or 1
abbrev pub AllPels : List ℕ → Type 0
AllPels [] = Unit {0}
AllPels (p ∷ ps) = (p ≤ 1) × AllPels ps
