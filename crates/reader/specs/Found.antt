-- Demand 2: what reading a band may answer, said with the writer's definition alone. Assumes nothing.
use Rattle.std.specs.Prelude.{◌≡◌, ℕ, ◌*◌, Bool, true, false, cond, List, leb, length, Result, Ok, Err}
use Rattle.std.proofs.Math.Option.{Option, some, none}
use Rattle.estimate.specs.declared.Table.{Table}
use Rattle.store.specs.Store.{in_front, cleared}
use Rattle.template.specs.Pels.{row_bytes}
use Rattle.band.specs.Band.{written, Right}
use Rattle.reader.specs.declared.Read.{Read}
use Rattle.reader.specs.declared.Fault.{Fault}
use Rattle.reader.specs.declared.Fault.TheVariants.{NoRoom, Damaged}

-- the rows are not longer than the buffer
unfoldable pub rows_fit : ℕ → ℕ → List ℕ → Bool
rows_fit width rows out = leb (rows * row_bytes width) (length out)

-- Damaged, or no room.
abbrev pub not_read : Bool → Result Read Fault
not_read true = Err Damaged
not_read false = Err NoRoom

-- Accepted: S, the pels revisited, the table and the last row after are those of writing that band.
unfoldable pub read_answer : Option (List ℕ) → ℕ → ℕ → Table → List ℕ → List ℕ → Result Read Fault
read_answer (some band) width rows table last out =
    cond (rows_fit width rows out)
    (Ok (record {
      length = length band;
      shifts = (written width rows table.entries last band).shifts;
      revisits = (written width rows table.entries last band).revisits;
      table = record { entries = (written width rows table.entries last band).table };
      last = (written width rows table.entries last band).last;
    }))
    (not_read false)
read_answer none width rows table last out = not_read (rows_fit width rows out)

-- the band's rows in front and the rest kept; else all zero
unfoldable pub read_out : Option (List ℕ) → ℕ → ℕ → List ℕ → List ℕ
read_out (some band) width rows out = cond (rows_fit width rows out) (in_front band out) (cleared out)
read_out none width rows out = cleared out

-- with room for the rows, what is found is right: a band that would have been written as exactly those bytes, or
-- nothing where there is none
pub record BandFound (width rows : ℕ) (table : Table) (last code out : List ℕ) (r : Result Read Fault)
    (after : List ℕ) : Type 0 where
  pub found : Option (List ℕ)
  pub right : rows_fit width rows out ≡ true → Right width rows table.entries last code found
  pub answer : r ≡ read_answer found width rows table last out
  pub lent : after ≡ read_out found width rows out
