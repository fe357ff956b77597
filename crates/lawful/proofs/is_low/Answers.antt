-- The highest decides. Assumes nothing.
use mathlib.Core.Path.{ap, ◌∙◌}
use Prim.Native.Nat.{ℕ}
use lib.Dec.{leb}
use Rattle.lawful.proofs.HighestByte.{all-low}
use Rattle.lawful.proofs.is_low.Goals as goal

pub returns : goal.returns
returns c = ap (λ (h : ℕ). leb h c.args.n) c.highest.ensures ∙ all-low c.args.n _
