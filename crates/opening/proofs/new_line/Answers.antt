-- Its state is the direction's. Assumes nothing.
use mathlib.Core.Path.{ap}
use Prim.Native.Nat.{ℕ}
use Rattle.opening.proofs.new_line.Goals as goal

pub returns : goal.returns
returns c = let a = c.args in ap (λ (n : ℕ). record { state = n; key = a.ask.key; width = a.ask.width }) c.into.ensures
