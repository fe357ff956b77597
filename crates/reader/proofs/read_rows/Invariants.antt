use mathlib.Core.Path.{◌≡◌}
use Prim.Native.Nat.{◌≤◌}
use lib.ListN.{length}
use Rattle.limits.specs.Limits.{last_bytes}
use Rattle.reader.specs.Reads.{BandRead}
use Rattle.reader.proofs.read_rows.Given as goal

abbrev pub invariant-loop-y : goal.invariant-loop-y
invariant-loop-y l = (l.y ≤ l.rows) × (length l.out ≡ length l.initial.out) × (length l.above ≡ last_bytes)
    × BandRead l.width l.initial.above l.code l.initial.reading.table.entries l.initial.out l.above l.reading l.out
    l.y
