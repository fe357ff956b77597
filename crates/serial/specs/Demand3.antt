-- Demand 3. "Take any run of calls from an empty desk. Strike out the refused calls and every page that was abandoned
-- or never closed, with all its calls. Serve what is left one whole page at a time, in the order in which the pages
-- were closed, each drop or look keeping its own place in that order. On a new empty desk, with the same inputs and
-- buffers, every call then answers as before and as demand 2 says, writes the same bytes, and each key's learned table
-- at the end is equal." Assumes nothing.
use Rattle.std.specs.Prelude.{◌≡◌, Bool, List}
use Rattle.std.proofs.Math.Option.{none}
use Rattle.turns.specs.Service.{Entry, calls}
use Rattle.turns.specs.Serial.{serial, Whole}
use Rattle.turns.specs.Order.{standing, of_key}
use Rattle.turns.specs.Strike.{strike, count}
use Rattle.turns.specs.Own.{own}
use Rattle.band.specs.Band.{Reader}
use Rattle.desk.specs.declared.Key.{Key}
use Rattle.desk.specs.Places.{empty_desk}
use Rattle.desk.specs.Calls.{Call}
use Rattle.desk.specs.Standing.{open_page, learned_table}
use Rattle.serial.specs.Run.{AllDone, calling, run, after}

module _ (R : Reader) (cs : List Call) where
  -- what is left of the run, with the answers that it had, in the order in which it is served (turns, `Serial`)
  unfoldable pub left : List (Entry calling)
  left = serial calling (run R empty_desk cs)

  -- the calls that are left, with the same inputs and buffers
  abbrev pub served_calls : List Call
  served_calls = calls calling left

  -- demand 3 of a run of calls from an empty desk, sentence by sentence
  pub record Demand3 : Type 0 where
    -- one whole page at a time: an open, bands and a close of one key, directly after each other; between them only
    -- drops and looks
    pub whole : Whole calling left
    -- on a new empty desk no call is refused,
    pub none_refused : AllDone (run R empty_desk served_calls)
    -- every call answers as before (number, length, S) and leaves the same bytes in its lent buffer,
    pub answers : run R empty_desk served_calls ≡ left
    -- and each key's learned table at the end is equal, or absent in both;
    pub tables : (k : Key) → learned_table (after R empty_desk served_calls) k ≡ learned_table (after R empty_desk cs) k
    -- no page is left open
    pub none_open : (k : Key) → open_page (after R empty_desk served_calls) k ≡ none
    -- the order: the closes, drops and looks that were accepted stand as they stood in the run;
    pub order : standing calling left ≡ standing calling (run R empty_desk cs)
    -- what is served of a key depends on that key's own calls alone;
    pub of-key : (k : Key) → of_key calling k left ≡ serial calling (of_key calling k (run R empty_desk cs))
    -- the calls of a key's pages that are not struck out keep their order,
    pub own_order : (k : Key) → own calling k left ≡ own calling k (strike calling (run R empty_desk cs))
    -- and of each key each call that is not struck out is served exactly as often as it was made
    pub nothing_lost : (k : Key) (test : Entry calling → Bool) → count calling k test left ≡ count calling k test
        (strike calling
        (run R empty_desk cs))
