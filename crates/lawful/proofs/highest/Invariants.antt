use Rattle.lawful.proofs.HighestByte.{Highest}
use Rattle.lawful.proofs.highest.Given as goal

abbrev pub invariant-loop-x : goal.invariant-loop-x
invariant-loop-x l = Highest l.top l.xs l.x-index
