-- The registers after expected pels with no shift. Assumes nothing.
use Rattle.std.specs.Prelude.{ℕ}
use Rattle.interval.specs.Interval.{upper_part}
use Rattle.octets.specs.declared.Coder.{Coder}

-- in the code's registers
abbrev pub still_by : ℕ → Coder → Coder
still_by n c = record { interval = upper_part n c.interval; until = c.until; held = c.held }
