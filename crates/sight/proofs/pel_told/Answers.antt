-- The expected pel, or the other. Assumes nothing.
use native.Mathlib.Omega.{arith}
use Rattle.sight.proofs.pel_told.Goals as goal

pub returns-then-expected : goal.returns-then-expected
returns-then-expected c = (rw c.if-expected.true, omega arith)

pub returns : goal.returns
returns c = (rw c.if-expected.false, omega arith)
