-- Document 01: the desk after a key's page or its class's learned table has changed. Assumes nothing.
use Rattle.std.specs.Prelude.{cond, ◌||◌, List, set}
use Rattle.estimate.specs.declared.Table.{Table}
use Rattle.desk.specs.declared.Key.{Key}
use Rattle.desk.specs.Desk.{Page, Place, Desk}
use Rattle.desk.specs.Places.{Found}
use Rattle.std.specs.Prelude.{Some, None}
use Rattle.desk.specs.Places.{zero_table, unused_page, free_place, page_found, place_found, table_found, free_page_found}
use Rattle.desk.specs.Places.{free_place_found, is_found}
use Rattle.desk.specs.Effects.{Change, stays, gone, becomes}

-- a place that is taken by a class with a learned table
unfoldable pub learned_place : Key → Table → Place
learned_place k t = record { state = 2; key = k; table = t }

-- a place that is reserved by an open page whose class has none
unfoldable pub reserved_place : Key → Place
reserved_place k = record { state = 1; key = k; table = zero_table }

-- a in the place that was found
abbrev pub set_at : {A : Type 0} → Found → A → List A → List A
set_at (Some i) a xs = set xs i a
set_at None a xs = xs

-- Freed slots and places are used again; the lowest free one is always the one taken.
abbrev pub or_free : Found → Found → Found
or_free f free = cond (is_found f) f free

-- the pages after a change of the key's page
unfoldable pub pages_after : Desk → Key → Change Page → List Page
pages_after d k stays = d.pages
pages_after d k gone = set_at (page_found d k) unused_page d.pages
pages_after d k (becomes p) = set_at (or_free (page_found d k) (free_page_found d)) p d.pages

-- A place is taken by a class with a learned table, or reserved by an open page whose class has none.
unfoldable pub places_after : Desk → Key → Change Page → Change Table → List Place
places_after d k p (becomes t) = set_at (or_free (place_found d k) (free_place_found d)) (learned_place k t) d.places
places_after d k p gone = set_at (table_found d k) free_place d.places
places_after d k stays stays = d.places
-- a place that was only reserved is free
places_after d k gone stays = cond (is_found (table_found d k)) d.places (set_at (place_found d k) free_place d.places)
-- a page that is opened now, and whose class has no table
places_after d k (becomes p) stays =
    cond (is_found (page_found d k) || is_found (table_found d k)) d.places (set_at (free_place_found d) (reserved_place k)
    d.places)

-- the desk after a change of the key's page and of its class's learned table
unfoldable pub changed : Desk → Key → Change Page → Change Table → Desk
changed d k p t = record { pages = pages_after d k p; places = places_after d k p t }
