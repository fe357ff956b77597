-- A free place is put. Assumes nothing.
use mathlib.Core.Path.{ap₂}
use Rattle.estimate.specs.declared.Table.{Table}
use Rattle.parts.specs.declared.PlaceLine.{PlaceLine}
use Rattle.parts.specs.Parts.{as_place}
use Rattle.desk.specs.Places.{free_place}
use Rattle.parts.proofs.EmptyDesk.{free-line}
use Rattle.parts.proofs.Puts.{place-as}
use Rattle.parts.proofs.Parts.clear_place.Goals as goal

pub returns : goal.returns
unfolding free_place
returns c = place-as (ap₂ (λ (l : PlaceLine) (t : Table). as_place l t.entries)
    (free-line c.default.result c.default.ensures)
    c.zero_table.ensures)
    c.put_place.ensures
