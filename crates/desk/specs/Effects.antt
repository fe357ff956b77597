-- Document 01: what each call answers, lends back and does, where no test refuses it. Assumes nothing.
use Rattle.std.specs.Prelude.{ℕ, List, [], length}
use Rattle.std.proofs.Math.Option.{Option, some, none}
use Rattle.ground.specs.Options.{or_else}
use Rattle.limits.specs.Limits.{contexts}
use Rattle.estimate.specs.declared.Table.{Table}
use Rattle.estimate.specs.Estimate.{fresh}
use Rattle.store.specs.Store.{in_front}
use Rattle.band.specs.Band.{white, Written, Finder}
use Rattle.desk.specs.declared.Opening.{Opening}
use Rattle.desk.specs.Desk.{Page}
use Rattle.desk.specs.Places.{state_for, no_table}
use Rattle.desk.specs.Calls.{Call, opens, writes, reads, closes, abandons, drops, looks}
use Rattle.desk.specs.Standing.{Stand, page_of}
use Rattle.desk.specs.Tests.{band_of, found_in}

-- what becomes of the key's page, and of its class's learned table
pub data Change (A : Type 0) : Type 0 where
  stays gone : Change A
  becomes : A → Change A

-- what stands there then
abbrev pub afterwards : {A : Type 0} → Option A → Change A → Option A
afterwards o stays = o
afterwards o gone = none
afterwards o (becomes a) = some a

-- What an accepted call gives. Its length is n for a write, the bytes of all rows for a read, 128 for a look and 0 for
-- the others; its S is 0 except for a band, and so is the number of pels revisited; the lent buffer after it; what
-- becomes of the page and of the learned table.
pub record Effect : Type 0 where
  pub length : ℕ
  pub shifts : ℕ
  pub revisits : ℕ
  pub lent : List ℕ
  pub page : Change Page
  pub learned : Change Table

-- a call that answers no length, no S and no pel revisited, and is lent nothing
abbrev pub does : Change Page → Change Table → Effect
does p t = record { length = 0; shifts = 0; revisits = 0; lent = []; page = p; learned = t }

-- the fresh table
abbrev pub fresh_table : Table
fresh_table = record { entries = fresh }

-- a new page: its working table; last row white
unfoldable pub new_page : Opening → Table → Page
new_page ask t =
    record { state = state_for ask.direction; key = ask.key; width = ask.width; table = t; last = white }

-- the page after a band: its table and last row
unfoldable pub served_page : Page → Written → Page
served_page p w =
    record { state = p.state; key = p.key; width = p.width; table = record { entries = w.table }; last = w.last }

-- a band: bytes in the front of the buffer, the rest kept; S, and the pels revisited; the page goes on
abbrev pub serves : Page → Written → List ℕ → List ℕ → Effect
serves p w bytes out =
    record {
      length = length bytes;
      shifts = w.shifts;
      revisits = w.revisits;
      lent = in_front bytes out;
      page = becomes (served_page p w);
      learned = stays;
    }

module _ (finds : Finder) where
  -- the band that a read finds
  abbrev pub band_in : Page → ℕ → List ℕ → List ℕ
  band_in p rows code = or_else (found_in finds p rows code) []

  -- what each call answers, lends back and does, where no test refuses it
  unfoldable pub effect : Call → Stand → Effect
  -- working table = the class's learned table, or the fresh one
  effect (opens ask) s = does (becomes (new_page ask (or_else s.learned fresh_table))) stays
  -- the code in the front of the buffer
  effect (writes ask pels out) s =
      let w : Written = band_of (page_of s) ask.rows pels in
      serves (page_of s) w w.code out
  -- the rows in the front of the buffer
  effect (reads ask code out) s =
      let rows : List ℕ = band_in (page_of s) ask.rows code in
      serves (page_of s) (band_of (page_of s) ask.rows rows) rows out
  -- the working table becomes the class's learned table; the page is gone
  effect (closes k) s = does gone (becomes (page_of s).table)
  -- the page is gone, the learned table is as before
  effect (abandons k) s = does gone stays
  -- the class's learned table is forgotten
  effect (drops k) s = does stays gone
  -- the 128 bytes of the learned table in the front of the buffer, the rest kept
  effect (looks k out) s =
      record {
        length = contexts;
        shifts = 0;
        revisits = 0;
        lent = in_front (or_else s.learned no_table).entries out;
        page = stays;
        learned = stays;
      }
