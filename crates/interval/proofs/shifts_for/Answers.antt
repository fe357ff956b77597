-- The leading zeros of a width tell how many doublings it wants. Assumes nothing.
use native.Mathlib.Omega.{arith}
use Rattle.interval.proofs.Growing.{doublings-few}
use Rattle.interval.proofs.Leading.{leading-doublings}
use Rattle.interval.proofs.shifts_for.Goals as goal

pub overflow_cast-result : goal.overflow_cast-result
overflow_cast-result c = omega (arith, leading-doublings c.args.width c.requires.0 c.requires.1)

pub overflow_sub-result : goal.overflow_sub-result
overflow_sub-result c = omega (arith, leading-doublings c.args.width c.requires.0 c.requires.1)

pub returns : goal.returns
returns c = let p = leading-doublings c.args.width c.requires.0 c.requires.1 in
    (p.2, omega (arith, p.2, doublings-few 12 c.args.width))
