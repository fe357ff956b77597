-- The lines of a page and of a place, and those past the end. Assumes nothing.
use Rattle.parts.specs.declared.PageLine.{PageLine}
use Rattle.parts.specs.declared.PlaceLine.{PlaceLine}
use Rattle.desk.specs.Desk.{Page, Place}
use Rattle.desk.specs.Places.{no_key}

-- ---- the pages and the places
abbrev pub page_line_of : Page → PageLine
page_line_of p = record { state = p.state; key = p.key; width = p.width }

abbrev pub place_line_of : Place → PlaceLine
place_line_of q = record { state = q.state; key = q.key }

abbrev pub no_page_line : PageLine
no_page_line = record { state = 0; key = no_key; width = 0 }

abbrev pub no_place_line : PlaceLine
no_place_line = record { state = 0; key = no_key }
