-- The line of a new page, and the open of a class that has no table. Assumes nothing.
use Rattle.std.specs.Prelude.{ℕ, cond, set}
use Rattle.parts.specs.declared.PageLine.{PageLine}
use Rattle.desk.specs.declared.Opening.{Opening}
use Rattle.desk.specs.Desk.{Desk, Outcome}
use Rattle.desk.specs.Places.{state_for, free_place_found, is_found}
use Rattle.desk.specs.Effects.{becomes, stays, does, fresh_table, new_page}
use Rattle.desk.specs.Changes.{reserved_place, set_at}
use Rattle.desk.specs.Allowed.{done, unless}

-- the line of a page that is opened
abbrev pub new_line : Opening → PageLine
new_line ask = record { state = state_for ask.direction; key = ask.key; width = ask.width }

-- what is left of an open where the class has no table, in the page's slot
unfoldable pub open_new : Desk → Opening → ℕ → Outcome
open_new d ask i =
    unless (cond (is_found (free_place_found d)) 0 5) d
    (done (does (becomes (new_page ask fresh_table)) stays) (record {
      pages = set d.pages i (new_page ask fresh_table);
      places = set_at (free_place_found d) (reserved_place ask.key) d.places;
    }))
