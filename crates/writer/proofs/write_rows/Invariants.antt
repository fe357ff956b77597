use mathlib.Core.Path.{◌≡◌}
use Prim.Native.Nat.{◌≤◌}
use lib.ListN.{length}
use Rattle.writer.proofs.RowByRow.{RowsKeep}
use Rattle.writer.proofs.write_rows.Given as goal

abbrev pub invariant-loop-y : goal.invariant-loop-y
invariant-loop-y g l = (1 ≤ l.y) × (l.y ≤ l.band.rows) × (length l.out ≡ length l.initial.out)
    × RowsKeep l.band.width l.band.pels.now l.initial.run l.initial.out l.run l.out l.y
