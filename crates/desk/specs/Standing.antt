-- What a call meets at the desk: all that its answer may depend on, beside its own inputs. Assumes nothing.
use Rattle.std.specs.Prelude.{Bool}
use Rattle.std.proofs.Math.Option.{Option, some, none}
use Rattle.ground.specs.Options.{or_else}
use Rattle.estimate.specs.declared.Table.{Table}
use Rattle.desk.specs.declared.Key.{Key}
use Rattle.desk.specs.Desk.{Page, Desk}
use Rattle.desk.specs.Places.{Found}
use Rattle.std.specs.Prelude.{Some, None}
use Rattle.desk.specs.Places.{no_page, page_found, table_found, free_page_found, free_place_found, is_found, page_at}
use Rattle.desk.specs.Places.{place_at}
use Rattle.desk.specs.Lawful.{lawful}

-- whether the desk is lawful; the key's open page and its class's learned table; whether a further page and a further
-- place are free
pub record Stand : Type 0 where
  pub sound : Bool
  pub page : Option Page
  pub learned : Option Table
  pub page_free : Bool
  pub place_free : Bool

-- the open page (no page, where there is none)
abbrev pub page_of : Stand → Page
page_of s = or_else s.page no_page

-- what a lookup's answer means: the page at the index found, or none
abbrev pub page_by : Desk → Found → Option Page
page_by d (Some i) = some (page_at d (Some i))
page_by d None = none

-- what a lookup's answer means: the learned table at the index found, or none
abbrev pub table_by : Desk → Found → Option Table
table_by d (Some i) = some (place_at d (Some i)).table
table_by d None = none

-- a key's open page
abbrev pub open_page : Desk → Key → Option Page
open_page d k = page_by d (page_found d k)

-- a class's learned table
abbrev pub learned_table : Desk → Key → Option Table
learned_table d k = table_by d (table_found d k)

-- what a call under the key k meets at the desk d
unfoldable pub stand : Desk → Key → Stand
stand d k =
    record {
      sound = lawful d;
      page = open_page d k;
      learned = learned_table d k;
      page_free = is_found (free_page_found d);
      place_free = is_found (free_place_found d);
    }
