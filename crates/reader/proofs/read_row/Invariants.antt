use Prim.Native.Nat.{◌-◌, ◌≤◌}
use Rattle.template.specs.Pels.{pels_to}
use Rattle.template.specs.White.{Under}
use Rattle.template.specs.Window.{parted}
use Rattle.reader.proofs.ReadRuns.{ReadTo}
use Rattle.reader.proofs.read_row.Given as goal

abbrev pub invariant-loop-x : goal.invariant-loop-x
invariant-loop-x l = ReadTo l.width (pels_to l.above.bytes.now l.width) l.initial.table.entries l.initial.coder l.code
    l.initial.at l.initial.revisits l.initial.good l.initial.view
    l.row l.table.entries l.coder (parted l.cx) l.view l.at l.revisits l.good l.x
    × (l.end ≤ l.width) × Under (pels_to l.above.bytes.now l.width) l.x l.end

abbrev pub decreases-loop-x : goal.decreases-loop-x
decreases-loop-x l = l.width - l.x
