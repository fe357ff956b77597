-- One pel coded: its part, then the doublings. Assumes nothing.
use native.Mathlib.Omega.{arith}
use Rattle.interval.proofs.Growing.{Fits, part-fits}
use Rattle.interval.proofs.Interval.code.Goals as goal

pub grow-requires : goal.grow-requires
grow-requires c = let a = c.args in
    let f : Fits c.part.result = rw c.part.ensures (part-fits a.q a.expected a.self (omega arith)
    (omega arith) (omega arith) (omega arith) (omega arith) (omega arith)) in
    omega arith

pub returns : goal.returns
returns c = rw (← c.part.ensures) c.grow.ensures
