-- The desk as a map from keys to cells, with the two counts; runs of calls. Assumes nothing.
use mathlib.Core.Bool.{Bool, true, false, ◌&&◌, not}
use mathlib.Core.List.{List, [], ◌∷◌}
use mathlib.Core.Option.{Option, some, none}
use Prim.Native.Nat.{ℕ, ◌+◌, ◌-◌}
use lib.Dec.{leb}
use Rattle.ground.specs.Options.{given}
use Rattle.turns.specs.Service.{Mark, accepted, refused, crowded, keys, put, Entry}
use Rattle.turns.proofs.Office.{Cell, Result, refuse, accept, Office, cell, service}
use Rattle.turns.specs.Base.{one}

-- a place is taken by a learned table, or reserved by an open page
abbrev pub placed : {T P : Type 0} → Option T → Option P → Bool
placed (some t) p = true
placed none (some p) = true
placed none none = false

abbrev pub has_page : {T P : Type 0} → Cell T P → Bool
has_page x = given x.page

abbrev pub has_place : {T P : Type 0} → Cell T P → Bool
has_place x = placed x.learned x.page

module _ (O : Office) where
  open O use {Key, Table, Page, Call, Output, key, act, refusal, pages, places}

  pub record Desk : Type 0 where
    pub cells : Key → Cell Table Page
    pub pages_open : ℕ
    pub places_taken : ℕ

  pub record Outcome : Type 0 where
    pub mark : Mark
    pub output : Output
    pub desk : Desk

  abbrev pub new_desk : Desk
  new_desk = record { cells = λ k. cell none none; pages_open = 0; places_taken = 0 }

  -- the desk with x under k, and the counts as they are then
  unfoldable pub store : Desk → Key → Cell Table Page → Desk
  store d k x = record {
    cells = put (keys (service O)) k x d.cells;
    pages_open = d.pages_open + one (has_page x) - one (has_page (d.cells k));
    places_taken = d.places_taken + one (has_place x) - one (has_place (d.cells k));
  }

  -- the call would open one page more than there may be, or take one place more
  unfoldable pub no_page : Desk → Key → Cell Table Page → Bool
  no_page d k x = (not (has_page (d.cells k)) && has_page x) && leb pages d.pages_open

  unfoldable pub no_place : Desk → Key → Cell Table Page → Bool
  no_place d k x = (not (has_place (d.cells k)) && has_place x) && leb places d.places_taken

  unfoldable pub admit : Bool → Bool → Desk → Call → Output → Cell Table Page → Outcome
  admit true b d c o x = record { mark = crowded; output = refusal 4 c; desk = d }
  admit false true d c o x = record { mark = crowded; output = refusal 5 c; desk = d }
  admit false false d c o x = record { mark = accepted; output = o; desk = store d (key c) x }

  unfoldable pub settle : Desk → Call → Result Output (Cell Table Page) → Outcome
  settle d c (refuse o) = record { mark = refused; output = o; desk = d }
  settle d c (accept o x) = admit (no_page d (key c) x) (no_place d (key c) x) d c o x

  -- one call
  unfoldable pub step : Desk → Call → Outcome
  step d c = settle d c (act c (d.cells (key c)))

  abbrev pub entry : Call → Outcome → Entry (service O)
  entry c r = record { call = c; mark = r.mark; output = r.output }

  -- a run of calls: each call with its answer; and the desk at the end
  unfoldable pub run : Desk → List Call → List (Entry (service O))
  run d [] = []
  run d (c ∷ cs) = entry c (step d c) ∷ run (step d c).desk cs

  unfoldable pub after : Desk → List Call → Desk
  after d [] = d
  after d (c ∷ cs) = after (step d c).desk cs
