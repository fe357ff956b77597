-- A lawful desk, page by page and place by place: what is asked of one in itself, and in the book beside the others.
-- Assumes nothing.
use Rattle.std.specs.Prelude.{Bool, not, ◌&&◌, ◌||◌, List, map, eqb, leb}
use Rattle.limits.specs.Limits.{max_width}
use Rattle.desk.specs.declared.Key.{Key}
use Rattle.parts.specs.declared.PageLine.{PageLine}
use Rattle.parts.specs.declared.PlaceLine.{PlaceLine}
use Rattle.parts.specs.declared.Sought.TheVariants.{Used}
use Rattle.desk.specs.Desk.{Page, Place}
use Rattle.desk.specs.Places.{no_key, same_key}
use Rattle.desk.specs.Lawful.{within, any, lawful_key, low_indexes, is_zero, no_stray, lawful_page, lawful_place}
use Rattle.parts.specs.Finding.{page_sought, place_sought}
use Rattle.parts.specs.Lines.{page_line_of, place_line_of}

-- what an open page, and an unused one, must be
abbrev pub open_right : Page → Bool
open_right p = leb p.state 2
    && (lawful_key p.key && (within 1 p.width max_width && (low_indexes p.table.entries && no_stray p.width
    p.last)))

abbrev pub unused_right : Page → Bool
unused_right p = same_key p.key no_key && (eqb p.width 0 && (is_zero p.table.entries && is_zero p.last))

-- ---- in the book
-- whether one of the lines is under the key
abbrev pub has_page : List PageLine → Key → Bool
has_page lines k = any (page_sought (Used k)) lines

abbrev pub has_place : List PlaceLine → Key → Bool
has_place lines k = any (place_sought (Used k)) lines

-- an open page is alone under its key, and has its place
abbrev pub page_known : List PlaceLine → PageLine → List PageLine → Bool
page_known places l later = eqb l.state 0 || (not (has_page later l.key) && has_place places l.key)

-- a used place is alone under its key; a reserved one has its page
abbrev pub place_known : List PageLine → PlaceLine → List PlaceLine → Bool
place_known pages l later = (eqb l.state 0 || not (has_place later l.key))
    && (not (eqb l.state 1) || has_page pages l.key)

abbrev pub page_right : List PlaceLine → Page → List Page → Bool
page_right places p later = lawful_page p && page_known places (page_line_of p) (map page_line_of later)

abbrev pub place_right : List PageLine → Place → List Place → Bool
place_right pages q later = lawful_place q && place_known pages (place_line_of q) (map place_line_of later)
