-- The reader of the Q-coder. Assumes nothing.
use Rattle.std.specs.Prelude.{ltb}
use Rattle.coder.specs.Reading.{Reader}
use Rattle.exact.specs.Sight.{Sight, opened, seek, decide, taken}

-- the reader: its decision, and the shifts after it
abbrev pub q_reader : Reader
q_reader = record {
  State = Sight;
  start = opened;
  ask = decide;
  take = λ q e r. seek 12 (taken q e r);
  moves =
      λ q e r. ltb (taken q e r).width 0x1000;
}
