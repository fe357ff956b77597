use Rattle.interval.specs.declared.Interval.{Interval}
use Rattle.octets.specs.Octets.{finish, ended}
use Rattle.octets.specs.Fit.{Rest}
use Rattle.octets.proofs.Ending.{stays, Ending}
use Rattle.octets.proofs.Coder.finish.Given as goal

abbrev pub invariant-loop-left : goal.invariant-loop-left
invariant-loop-left l = (i : Interval) → Rest (stays i l.initial.low l.initial.until l.initial.held)
    → Ending i (ended (finish (stays i l.initial.low l.initial.until l.initial.held))) l.bytes l.low l.until l.held
    l.left l.n

abbrev pub decreases-loop-left : goal.decreases-loop-left
decreases-loop-left l = l.left
