-- Runs of calls at the desk, each call by the definitions that its contract cites. Assumes nothing.
use Rattle.std.specs.Prelude.{◌≡◌, cond, ◌||◌, List, [], ◌∷◌, ℕ, eqb}
use Rattle.turns.specs.Service.{Mark, accepted, refused, crowded, Service, Entry}
use Rattle.band.specs.Band.{Reader}
use Rattle.desk.specs.declared.Key.{Key}
use Rattle.desk.specs.Desk.{Desk, Outcome}
use Rattle.desk.specs.declared.Answer.{Answer}
use Rattle.desk.specs.Places.{same_key}
use Rattle.desk.specs.Calls.{Call, key_of, kind_of}
use Rattle.desk.specs.Allowed.{outcome, lent}

-- ---- one call: what it answers (number, length, S), the lent buffer after it (empty where none is lent), the desk
-- after it
pub record Step : Type 0 where
  pub answer : Answer
  pub lent : List ℕ
  pub desk : Desk

-- a step by its outcome and its lent buffer
abbrev pub step_of : Outcome → List ℕ → Step
step_of o after = record { answer = o.answer; lent = after; desk = o.desk }

-- the answer and the lent buffer alone
pub record Output : Type 0 where
  pub answer : Answer
  pub lent : List ℕ

-- An accepted call answers 0 as its number; 4 and 5 are refusals for want of room.
unfoldable pub mark_of : ℕ → Mark
mark_of n = cond (eqb n 0) accepted (cond (eqb n 4 || eqb n 5) crowded refused)

-- the desk's calls: whose they are, and of which kind
abbrev pub calling : Service
calling = record {
  Key = Key;
  same = same_key;
  Call = Call;
  Output = Output;
  key = key_of;
  kind = kind_of;
}

-- a call with what it answered, and whether it was accepted
abbrev pub entry_of : Call → Step → Entry calling
entry_of c r =
    record { call = c; mark = mark_of r.answer.number; output = record { answer = r.answer; lent = r.lent } }

module _ (R : Reader) where
  -- one call at the desk d
  abbrev pub step : Desk → Call → Step
  step d c = step_of (outcome R.finds d c) (lent R.finds d c)

  -- a run: each call with what it answered
  unfoldable pub run : Desk → List Call → List (Entry calling)
  run d [] = []
  run d (c ∷ cs) = entry_of c (step d c) ∷ run (step d c).desk cs

  -- the desk at the end of a run
  unfoldable pub after : Desk → List Call → Desk
  after d [] = d
  after d (c ∷ cs) = after (step d c).desk cs

-- every call was accepted: it answered 0 as its number
unfoldable pub AllDone : List (Entry calling) → Type 0
AllDone [] = Unit {0}
AllDone (e ∷ es) = (e.output.answer.number ≡ 0) × AllDone es
