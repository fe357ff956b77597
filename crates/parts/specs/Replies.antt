-- What a call over the parts gives back, and what that says. Assumes nothing.
use Rattle.std.specs.Prelude.{List, ℕ}
use Rattle.desk.specs.declared.Answer.{Answer}
use Rattle.parts.specs.declared.Parts.{Parts}
use Rattle.desk.specs.Desk.{Outcome}
use Rattle.parts.specs.Parts.{desk_of, Whole}
use Rattle.desk.specs.Calls.{Call}
use Rattle.desk.specs.Allowed.{Allowed}

-- the desk that a call leaves, with its answer
abbrev pub outcome_of : Answer → Parts → Outcome
outcome_of r q = record { answer = r; desk = desk_of q }

-- the parts p are asked c; the answer r, the parts q and the lent buffer are allowed, and every part keeps its size
pub record Serves (p : Parts) (c : Call) (r : Answer) (q : Parts) (after : List ℕ) : Type 0 where
  pub allowed : Allowed (desk_of p) c (outcome_of r q) after
  pub whole : Whole q
