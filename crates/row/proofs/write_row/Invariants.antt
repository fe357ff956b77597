use Prim.Native.Nat.{◌-◌}
use Rattle.template.specs.Pels.{pels_to}
use Rattle.template.specs.White.{Clear}
use Rattle.row.specs.AnyEngine.{engine_over}
use Rattle.row.proofs.AnyEngine.{over_is_engine, over_seven}
use Rattle.row.proofs.WrittenRow.{RowAt}
use Rattle.row.proofs.write_row.Given as goal

abbrev pub invariant-loop-x : goal.invariant-loop-x
invariant-loop-x g l =
    let m = g.E.Engine in
    RowAt (engine_over m.bottom_of m.Sound) (over_is_engine m.bottom_of m.Sound) (over_seven m.bottom_of m.Sound)
    l.width (pels_to l.above.bytes.now l.width) l.row l.initial.table.entries l.initial.coder l.initial.out l.initial.at
    l.initial.revisits
    l.table.entries l.coder l.window l.out l.at l.revisits l.x
    × Clear l.row (pels_to l.above.bytes.now l.width) l.width l.x l.end

abbrev pub decreases-loop-x : goal.decreases-loop-x
decreases-loop-x g l = l.width - l.x
