-- An engine whose registers stand for a coder, with its code string at the bottom of the interval; and what a pel
-- gives. Assumes nothing.
use Rattle.std.specs.Prelude.{◌≡◌, ℕ, Bool, is_some, List, [], length, Option, Some, None}
use Rattle.engine.specs.Engine.{Engine}
use Rattle.engine.specs.Coded.{Gives}
use Rattle.engine.specs.Coded as any
use Rattle.estimate.specs.Estimate.{LawfulEntry}
use Rattle.interval.specs.Interval.{decision}
use Rattle.octets.specs.declared.Coder.{Coder}
use Rattle.octets.specs.declared.Put.{Put}
use Rattle.octets.specs.Octets.{pel, finish, ended}
use Rattle.octets.specs.Fit.{Ready}
use Rattle.octets.specs.Lift.{lift, bytes_of}
use Rattle.band.specs.Band.{q_scheme, q_writer}
use Rattle.row.specs.declared.Moved.{Moved}
use Rattle.row.specs.declared.Pel.{Pel}

-- the writer stands where the string at the bottom says
abbrev pub engine_over : {E : Type 0} → (E → Coder) → (E → Type 0) → Engine
engine_over {E} bottom_of Sound =
    record {
      scheme = q_scheme;
      writer = q_writer;
      Lawful = LawfulEntry;
      Registers = E;
      stands = λ t xs. lift (bottom_of t) xs;
      Ready = λ t. Ready (lift (bottom_of t) []) × Sound t;
      Puts = λ q e t u ys. (pel (decision q e) (lift (bottom_of t) []) ≡ lift (bottom_of u) ys) × Sound u;
      last = λ t. ended (finish (lift (bottom_of t) []));
    }

-- ---- one pel: the registers, the entry of its context, whether it shifted, the bytes settled
abbrev pub entry_of : ℕ → Option Moved → ℕ
entry_of e None = e
entry_of e (Some m) = m.entry

abbrev pub moved_bytes : Option Moved → List ℕ
moved_bytes None = []
moved_bytes (Some m) = bytes_of m.bytes

abbrev pub given : {E : Type 0} → ℕ → Pel E → Gives E
given e v = record {
  registers = v.coder;
  entry = entry_of e v.moved;
  revisited = is_some v.moved;
  settled = length (moved_bytes v.moved);
  bytes = moved_bytes v.moved;
}

abbrev pub Pelled : {E : Type 0} → (E → Coder) → (E → Type 0) → E → ℕ → Bool → Pel E → Type 0
Pelled bottom_of Sound t e b v = any.Pelled (engine_over bottom_of Sound) t e b (given e v)

-- an expected pel with no shift, by the registers after it: its size is taken, and that is all
abbrev pub still_pel : {E : Type 0} → E → Pel E
still_pel t = record { coder = t; moved = None }

-- a pel that shifts, from what the octets say of it
abbrev pub moved_pel : {E : Type 0} → Put E → ℕ → Pel E
moved_pel u n = record { coder = u.coder; moved = Some (record { entry = n; bytes = u.bytes }) }
