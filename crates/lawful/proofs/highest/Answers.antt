-- The highest so far, and of the rest, is the highest of all. Assumes nothing.
use native.Mathlib.Omega.{arith}
use Rattle.lawful.proofs.HighestByte.{highest-next, highest-end}
use Rattle.lawful.proofs.highest.Goals as goal

pub loop-x-preserved : goal.loop-x-preserved
loop-x-preserved c = highest-next c.loop-x.invariant c.max-top.result (omega arith) c.max-top.ensures

pub returns : goal.returns
returns c = highest-end c.loop-x.invariant (omega arith)
