-- A row that was read, whole. Assumes nothing.
use Rattle.std.specs.Prelude.{ℕ, ◌^◌, ◌≤◌, ◌<◌, List, length}
use Rattle.engine.specs.Coded.{row_page}
use Rattle.engine.specs.Followed.{Followed}
use Rattle.exact.specs.Sight.{Sight}
use Rattle.row.specs.QEngine.{q_engine}
use Rattle.sight.specs.declared.View.{View}
use Rattle.sight.specs.Views.{sight_of}
use Rattle.template.specs.Pels.{pels_to}
use Rattle.template.specs.Packing.{Row}
use Rattle.unique.specs.QCoder.{q_reader}
use Rattle.reader.specs.declared.Progress.{Progress}
use Rattle.reader.specs.declared.Line.{Line}

-- what a reading sees
abbrev pub seen : Progress → List ℕ → Sight
seen r code = sight_of r.view r.coder.interval.width code

-- its numbers are small
pub record InSight (code : List ℕ) (v : View) : Type 0 where
  pub within : v.at ≤ length code
  pub near : v.look ≤ 7
  pub small : v.x < 2 ^ 32

pub record LineRead (width : ℕ) (above code : List ℕ) (s : Progress) (l : Line) : Type 0 where
  pub done : Followed q_engine q_reader width code (row_page s.table.entries above) s.coder s.revisits s.at
      s.good (seen s code) (pels_to l.row width) (row_page l.reading.table.entries (pels_to l.row width))
      l.reading.coder l.reading.revisits l.reading.at l.reading.good (seen l.reading code)
  pub packed : Row l.row width
  pub sight : InSight code l.reading.view
