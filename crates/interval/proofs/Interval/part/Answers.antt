-- The part of the interval that a pel takes, upper or lower. Assumes nothing.
use Rattle.interval.proofs.Interval.part.Goals as goal

pub returns-then-expected : goal.returns-then-expected
returns-then-expected c = rw c.if-expected.true

pub returns : goal.returns
returns c = rw c.if-expected.false
