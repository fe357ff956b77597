-- What a call may answer, which desk it may leave, and which bytes in its lent buffer: the one statement of every call.
-- Assumes nothing.
use Rattle.std.specs.Prelude.{◌≡◌, ℕ, zero, suc, List, Result, Ok, Err}
use Rattle.band.specs.Band.{Finder, Reader}
use Rattle.desk.specs.declared.Answer.{Answer}
use Rattle.desk.specs.declared.Done.{Done}
use Rattle.desk.specs.declared.Refusal.{Refusal}
use Rattle.desk.specs.Desk.{Desk, Outcome}
use Rattle.desk.specs.Refusals.{refusal, lent_after, number_of}
use Rattle.desk.specs.Calls.{Call, key_of, lent_to}
use Rattle.desk.specs.Standing.{stand}
use Rattle.desk.specs.Tests.{tests}
use Rattle.desk.specs.Effects.{Effect, effect}
use Rattle.desk.specs.Changes.{changed}

-- A refusal answers its number, length 0 and S = 0, and no pel revisited.
abbrev pub refused_as : ℕ → Answer
refused_as n = record { number = n; length = 0; shifts = 0; revisits = 0 }

-- A call's result, as an answer: 0 and what was done, or the refusal's number.
abbrev pub answer_of : Result Done Refusal → Answer
answer_of (Ok d) = record { number = 0; length = d.length; shifts = d.shifts; revisits = d.revisits }
answer_of (Err r) = refused_as (number_of r)

-- An accepted call answers 0 as its number.
abbrev pub done_as : Effect → Answer
done_as e = record { number = 0; length = e.length; shifts = e.shifts; revisits = e.revisits }

-- A refusal changes nothing in the desk.
abbrev pub refused : ℕ → Desk → Outcome
refused n d = record { answer = refused_as n; desk = d }

-- an accepted call: its answer, and the desk after it
abbrev pub done : Effect → Desk → Outcome
done e d = record { answer = done_as e; desk = d }

-- refused by its number, or, where that is 0, done
abbrev pub unless : ℕ → Desk → Outcome → Outcome
unless zero d o = o
unless (suc n) d o = refused (suc n) d

-- the lent buffer after a refusal, or, where the number is 0, after an accepted call
abbrev pub unless_lent : ℕ → List ℕ → List ℕ → List ℕ
unless_lent zero out after = after
unless_lent (suc n) out after = lent_after (suc n) out

module _ (finds : Finder) (d : Desk) (c : Call) where
  -- the number of its refusal, or 0
  unfoldable pub number : ℕ
  number = refusal (tests finds c (stand d (key_of c)))

  -- what the call does, where it is accepted
  abbrev pub effect_on : Effect
  effect_on = effect finds c (stand d (key_of c))

  -- the answer and the desk after it
  unfoldable pub outcome : Outcome
  outcome =
      unless number d (done effect_on (changed d (key_of c) effect_on.page effect_on.learned))

  -- the lent buffer after it (empty where none is lent)
  unfoldable pub lent : List ℕ
  lent = unless_lent number (lent_to c) effect_on.lent

-- The answer, the desk and the lent buffer are those, by what a right reader finds in a code. (There is one right
-- reader: any two find the same.)
pub record Allowed (d : Desk) (c : Call) (r : Outcome) (after : List ℕ) : Type 0 where
  pub reader : Reader
  pub outcome : r ≡ outcome reader.finds d c
  pub lent : after ≡ lent reader.finds d c
