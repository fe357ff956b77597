use Rattle.parts.specs.Finding.{line_sought}
use Rattle.parts.proofs.Finding.{Searching}
use Rattle.parts.proofs.find.Given as goal

abbrev pub invariant-loop-i : goal.invariant-loop-i
invariant-loop-i g l = Searching (line_sought g.L.Line.state g.L.Line.key l.sought) l.lines l.from l.i
