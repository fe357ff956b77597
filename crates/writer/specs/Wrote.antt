-- What writing a band into a lent buffer gives back. Assumes nothing.
use Rattle.std.specs.Prelude.{◌≡◌, ℕ, cond, List, length, Option, Some, None}
use Rattle.store.specs.Store.{in_front, cleared}
use Rattle.estimate.specs.declared.Table.{Table}
use Rattle.writer.specs.declared.Wrote.{Wrote}
use Rattle.band.specs.Band.{Written, written, has_room}

-- with room: n, S, the pels revisited, and the table and the last row after; else nothing
unfoldable pub wrote_answer : Written → List ℕ → Option Wrote
wrote_answer w out =
    cond (has_room w.code out)
    (Some (record {
      length = length w.code;
      shifts = w.shifts;
      revisits = w.revisits;
      table = record { entries = w.table };
      last = w.last;
    }))
    None

-- the lent buffer after it: with room the code in front and the rest kept, else all zero
unfoldable pub wrote_out : Written → List ℕ → List ℕ
wrote_out w out = cond (has_room w.code out) (in_front w.code out) (cleared out)

-- what is handed back, and the lent buffer after it, whichever engine writes: by width and rows, table, last row, pels
-- and buffer
abbrev pub BandWrote : ℕ → ℕ → Table → List ℕ → List ℕ → List ℕ → Option Wrote → List ℕ → Type 0
BandWrote width rows table last pels out r after =
    (r ≡ wrote_answer (written width rows table.entries last pels) out)
    × (after ≡ wrote_out (written width rows table.entries last pels) out)
