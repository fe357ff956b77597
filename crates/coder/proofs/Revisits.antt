-- How many pels are revisited: no more than there are, and, where each shift counts, no more than there are shifts.
-- Assumes nothing.
use Prim.Native.Nat.{ℕ, ◌+◌, ◌≤◌}
use native.Mathlib.Omega.{arith}
use mathlib.Core.Bool.{Bool, true, false}
use mathlib.Core.List.{List, [], ◌∷◌}
use lib.ListN.{length}
use lib.Dec.{eqb}
use Rattle.coder.specs.Writing.{Writer, Model, Stage, counted, step, after}

counted-most : (b : Bool) (n : ℕ) → counted b n ≤ n + 1
counted-most true n = omega arith
counted-most false n = omega arith

counted-under : (b : Bool) (n m l : ℕ) → n ≤ m → counted b m ≤ l → counted b n ≤ l
counted-under true n m l h k = omega arith
counted-under false n m l h k = omega arith

-- a writer that counts its shifts: a pel with a shift makes the count grow, and no pel makes it fall
abbrev pub Counts : Writer → Type 0
Counts W = (q : ℕ) (e : Bool) (w : W.State) → counted (W.moves q e w) (W.count w) ≤ W.count (W.put q e w)

module _ (A : Model) (W : Writer) where
  abbrev shifted : Stage A W → ℕ → Bool
  shifted s p = W.moves (A.size s.model) (eqb p (A.sense s.model)) s.writer

  -- no more than there are pels
  pub revisits-pels : (ps : List ℕ) (s : Stage A W) → (after A W s ps).revisits ≤ s.revisits + length ps
  unfolding after
  revisits-pels [] s = omega arith
  revisits-pels (p ∷ ps) s =
      omega (arith, revisits-pels ps (step A W s p), counted-most (shifted s p) s.revisits)

  -- no more than there are shifts
  pub revisits-shifts : Counts W → (ps : List ℕ) (s : Stage A W) → s.revisits ≤ W.count s.writer
      → (after A W s ps).revisits ≤ W.count (after A W s ps).writer
  unfolding after
  revisits-shifts k [] s h = h
  revisits-shifts k (p ∷ ps) s h =
      revisits-shifts k ps (step A W s p) (counted-under (shifted s p) s.revisits (W.count s.writer) _ h
      (k (A.size s.model) (eqb p (A.sense s.model)) s.writer))
