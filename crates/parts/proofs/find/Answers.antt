-- The first such line is found, or there is none. Assumes nothing.
use mathlib.Core.Path.{refl}
use native.Mathlib.Omega.{arith}
use Rattle.parts.specs.Finding.{line_sought}
use Rattle.parts.proofs.Finding.{found_here, found-later, found_nowhere, told}
use Rattle.parts.proofs.find.Goals as goal

pub loop-i-init : goal.loop-i-init
loop-i-init g c = refl

pub returns-then-is_sought : goal.returns-then-is_sought
returns-then-is_sought g c =
    let a = c.args in
    found_here (line_sought g.L.Line.state g.L.Line.key a.sought) a.lines.now a.from c.loop-i.i c.loop-i.invariant
    c.index-lines-i.result (omega arith)
    (told g.L.Line.state g.L.Line.key a.sought c.index-lines-i.is c.state.ensures c.key.ensures c.is_sought.ensures
    c.if-is_sought.true)

pub loop-i-preserved : goal.loop-i-preserved
loop-i-preserved g c =
    let a = c.args in
    found-later (line_sought g.L.Line.state g.L.Line.key a.sought) a.lines.now a.from c.loop-i.i c.loop-i.invariant
    c.index-lines-i.result (omega arith)
    (told g.L.Line.state g.L.Line.key a.sought c.index-lines-i.is c.state.ensures c.key.ensures c.is_sought.ensures
    c.if-is_sought.false)

pub returns : goal.returns
returns g c =
    let a = c.args in
    found_nowhere (line_sought g.L.Line.state g.L.Line.key a.sought) a.lines.now a.from c.loop-i.i c.loop-i.invariant
    (omega arith)
