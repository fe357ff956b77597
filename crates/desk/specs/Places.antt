-- Document 01, "The desk and who may stand at it": whose pages and places are, and how they are found. Assumes nothing.
use Rattle.std.specs.Prelude.{ℕ, suc, Bool, cond, not, ◌&&◌, List, [], ◌∷◌, eqb, get_or, replicate, Option}
use Rattle.std.specs.Prelude.{Some, None, is_some}
use Rattle.limits.specs.Limits.{max_pages, max_places, contexts}
use Rattle.estimate.specs.declared.Table.{Table}
use Rattle.band.specs.Band.{white}
use Rattle.desk.specs.declared.Key.{Key}
use Rattle.desk.specs.declared.Direction.{Direction}
use Rattle.desk.specs.declared.Direction.TheVariants as way
use Rattle.desk.specs.Desk.{Page, Place, Desk}

-- A page's state: 0 unused, 1 open to write, 2 open to read; a place's: 0 free, 1 reserved, 2 learned. Used is what is
-- not 0.
abbrev pub is_used : ℕ → Bool
is_used state = not (eqb state 0)

-- the state of a place that is taken by a class with a learned table
abbrev pub is_learned : ℕ → Bool
is_learned state = eqb state 2

-- The direction is write or read: the state of a page that is open so.
abbrev pub state_for : Direction → ℕ
state_for way.Write = 1
state_for way.Read = 2

-- the key of unused room: zero
abbrev pub no_key : Key
no_key = record { school = 0; class = 0 }

-- the table of unused room: zero
unfoldable pub zero_table : Table
zero_table = record { entries = replicate contexts 0 }

-- an unused page: all of it is zero
unfoldable pub unused_page : Page
unused_page = record { state = 0; key = no_key; width = 0; table = zero_table; last = white }

-- a free place: all of it is zero
unfoldable pub free_place : Place
free_place = record { state = 0; key = no_key; table = zero_table }

-- an empty desk: no page is open, and every place is free
unfoldable pub empty_desk : Desk
empty_desk = record { pages = replicate max_pages unused_page; places = replicate max_places free_place }

-- what stands for a table where there is none, as past the end of a list
abbrev pub no_table : Table
no_table = record { entries = [] }

-- what stands for a page where there is none
abbrev pub no_page : Page
no_page = record { state = 0; key = no_key; width = 0; table = no_table; last = [] }

-- what stands for a place where there is none
abbrev pub no_place : Place
no_place = record { state = 0; key = no_key; table = no_table }

-- ---- whose they are
-- two keys are the same: the school and the class
abbrev pub same_key : Key → Key → Bool
same_key a b = eqb a.school b.school && eqb a.class b.class

-- used, and under the key k
abbrev pub is_under : ℕ → Key → Key → Bool
is_under state mine k = is_used state && same_key mine k

-- an open page of the key k
abbrev pub is_page_of : Key → Page → Bool
is_page_of k p = is_under p.state p.key k

-- a place of the key k's class, learned or reserved
abbrev pub is_place_of : Key → Place → Bool
is_place_of k p = is_under p.state p.key k

-- a place with the learned table of the key k's class
abbrev pub is_table_of : Key → Place → Bool
is_table_of k p = is_learned p.state && same_key p.key k

-- an unused page
abbrev pub is_free_page : Page → Bool
is_free_page p = eqb p.state 0

-- a free place
abbrev pub is_free_place : Place → Bool
is_free_place p = eqb p.state 0

-- ---- finding: what a lookup answers is an index, or nothing
abbrev pub Found : Type 0
Found = Option ℕ

-- the first that passes the test, counted from i
unfoldable pub find_by : {A : Type 0} → (A → Bool) → List A → ℕ → Found
find_by test [] i = None
find_by test (x ∷ xs) i = cond (test x) (Some i) (find_by test xs (suc i))

-- where the key's open page is
abbrev pub page_found : Desk → Key → Found
page_found d k = find_by (is_page_of k) d.pages 0

-- where the class's place is, learned or reserved
abbrev pub place_found : Desk → Key → Found
place_found d k = find_by (is_place_of k) d.places 0

-- where the class's learned table is
abbrev pub table_found : Desk → Key → Found
table_found d k = find_by (is_table_of k) d.places 0

-- where a page is free: the lowest free one is always the one taken
abbrev pub free_page_found : Desk → Found
free_page_found d = find_by is_free_page d.pages 0

-- where a place is free: the lowest free one is always the one taken
abbrev pub free_place_found : Desk → Found
free_place_found d = find_by is_free_place d.places 0

-- whether there was one
abbrev pub is_found : Found → Bool
is_found f = is_some f

-- the page found (no page, where there is none)
abbrev pub page_at : Desk → Found → Page
page_at d (Some i) = get_or d.pages i no_page
page_at d None = no_page

-- the place found (no place, where there is none)
abbrev pub place_at : Desk → Found → Place
place_at d (Some i) = get_or d.places i no_place
place_at d None = no_place
