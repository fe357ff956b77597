-- The next entry is the definition's, case by case. Assumes nothing.
use native.Mathlib.Omega.{arith}
use Rattle.estimate.proofs.LawfulEntries.{next-rise, next-top, next-flip, next-fall}
use Rattle.estimate.proofs.next_entry.Goals as goal

pub returns-then-i-lt29 : goal.returns-then-i-lt29
returns-then-i-lt29 c = rw c.if-expected.true (next-rise c.args.e c.if-i-lt29.true)

pub returns-else-i-lt29 : goal.returns-else-i-lt29
returns-else-i-lt29 c = rw c.if-expected.true (next-top c.args.e (omega arith) c.if-i-lt29.false)

pub returns-then-i-eq0 : goal.returns-then-i-eq0
returns-then-i-eq0 c = rw c.if-expected.false (next-flip c.args.e c.if-i-eq0.true)

pub fall_of-requires : goal.fall_of-requires
fall_of-requires c = omega arith

pub overflow_sub-result-2 : goal.overflow_sub-result-2
overflow_sub-result-2 c = (next-fall c.args.e _ c.fall_of.ensures c.if-i-eq0.false).0

pub returns : goal.returns
returns c = rw c.if-expected.false (next-fall c.args.e _ c.fall_of.ensures
    c.if-i-eq0.false).1
