-- Document 01, "The interval and its bytes": the byte rules, from the first shift to the end. Assumes nothing.
use Rattle.std.specs.Prelude.{ℕ, zero, suc, ◌+◌, ◌-◌, ◌*◌, ◌/◌, ◌%◌, ◌^◌, cond, List, [], ◌∷◌, ◌++◌, drop, ltb, eqb}
use Rattle.interval.specs.declared.Interval.{Interval}
use Rattle.interval.specs.Interval.{Decision, whole, part_of, doubled}

-- interval: the width, what of the lower end is in no byte yet, and the shifts so far.
-- until: the shifts to go until a byte goes out.
-- held: the byte last made, which may still take a carry. A zero that is no part of the code stands before the first.
-- settled: the bytes before it, final.
pub record Registers : Type 0 where
  pub interval : Interval
  pub until : ℕ
  pub held : ℕ
  pub settled : List ℕ

-- A byte goes out at 12 shifts.
abbrev pub start : Registers
start = record { interval = whole; until = 12; held = 0; settled = [] }

-- A byte brings 8 new bits; a byte after FF brings 7.
unfoldable pub bits : ℕ → ℕ
bits b = cond (eqb b 0xff) 7 8

-- A carry found when a byte goes out is added to the byte before it, unless that byte is FF.
unfoldable pub carried : ℕ → ℕ → ℕ
carried h c = cond (eqb h 0xff) h (h + c / 2 ^ 24)

-- The lower end without that carry; after FF the carry stays where it is, and is the stuff bit.
unfoldable pub left : ℕ → ℕ → ℕ
left h c = cond (eqb h 0xff) c (c % 2 ^ 24)

-- A byte goes out: the held one is settled with its carry, and the next 8 bits are held, or after FF the stuff bit and
-- the next 7.
unfoldable pub byte : Registers → Registers
byte w =
    let b : ℕ = carried w.held w.interval.low in
    let r : ℕ = left w.held w.interval.low in
    record {
      interval = record { low = r % 2 ^ (24 - bits b); width = w.interval.width; count = w.interval.count };
      until = bits b;
      held = r / 2 ^ (24 - bits b);
      settled = w.settled ++ (b ∷ []);
    }

-- a byte goes out when no shifts are to go
unfoldable pub due : Registers → Registers
due w = let v : Registers = byte w in cond (eqb w.until 0) v w

-- one shift
abbrev pub double : Registers → Registers
double w = record { interval = doubled w.interval; until = w.until - 1; held = w.held; settled = w.settled }

-- while the width is below 1000 hex: n shifts at the most
unfoldable pub shifts : ℕ → Registers → Registers
shifts zero w = w
shifts (suc n) w = let r : Registers = shifts n (due (double w)) in cond (ltb w.interval.width 0x1000) r w

-- the registers with another interval
abbrev pub at : Interval → Registers → Registers
at i w = record { interval = i; until = w.until; held = w.held; settled = w.settled }

-- the pel's part of the interval
abbrev pub part : Decision → Registers → Registers
part d w = at (part_of d w.interval) w

-- One pel: its part of the interval, and the shifts.
abbrev pub pel : Decision → Registers → Registers
pel d w = shifts 12 (part d w)

unfoldable pub run : List Decision → Registers → Registers
run [] w = w
run (d ∷ ds) w = run ds (pel d w)

-- at the end: one zero shifted in
abbrev pub pad : Registers → Registers
pad w =
    record {
      interval = record { low = 2 * w.interval.low; width = w.interval.width; count = w.interval.count };
      until = w.until - 1;
      held = w.held;
      settled = w.settled;
    }

-- n zeros shifted in
unfoldable pub pads : ℕ → Registers → Registers
pads zero w = w
pads (suc n) w = pads n (pad w)

-- at the end: a byte made by the same rules, zeros shifted in
abbrev pub last_byte : Registers → Registers
last_byte w = byte (pads w.until w)

-- At the end, bytes are made by the same rules, zeros shifted in, until they cover the r bits of the lower end that are
-- in no byte. Here n bytes at the most.
unfoldable pub cover : ℕ → ℕ → Registers → Registers
cover zero r w = w
cover (suc n) r w =
    let next : Registers = last_byte w in
    let rest : Registers = cover n (r - next.until) next in
    cond (eqb r 0) w rest

-- The end. 24 bits less the shifts to go are in no byte yet; four bytes cover any 24 bits.
unfoldable pub finish : Registers → Registers
finish w = cover 4 (24 - w.until) w

-- every byte, the zero before the code first
unfoldable pub bytes : Registers → List ℕ
bytes w = w.settled ++ (w.held ∷ [])

-- Where the last byte is FF, one more byte 00 follows, because receivers look for a stuff bit after it. Nothing else
-- follows.
unfoldable pub follows : ℕ → List ℕ
follows b = cond (eqb b 0xff) (0 ∷ []) []

-- every byte and what follows the last of them
unfoldable pub ended : Registers → List ℕ
ended w = bytes w ++ follows w.held

-- The code, if the band ends here.
unfoldable pub code : Registers → List ℕ
code w = drop 1 (ended (finish w))
