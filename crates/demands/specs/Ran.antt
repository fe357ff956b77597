-- A whole run of the code: each call with what its contract allows, on the desk that the call before it left. Assumes
-- nothing.
use Rattle.std.specs.Prelude.{List, [], ◌∷◌, ℕ}
use Rattle.turns.specs.Service.{Entry}
use Rattle.desk.specs.Desk.{Desk, Outcome}
use Rattle.desk.specs.Calls.{Call}
use Rattle.desk.specs.Allowed.{Allowed}
use Rattle.serial.specs.Run.{calling, step_of, entry_of}

-- a history: calls in a row, each with an outcome that its contract allows, on the desk that the call before it left
pub data Ran : Desk → List (Entry calling) → Desk → Type 0 where
  begun : (d : Desk) → Ran d [] d
  more : (d : Desk) (c : Call) (r : Outcome) (lent : List ℕ) (es : List (Entry calling)) (d' : Desk)
      → Allowed d c r lent → Ran r.desk es d'
      → Ran d (entry_of c (step_of r lent) ∷ es) d'
