-- The registers with the code string at the top of the interval. Assumes nothing.
use Rattle.std.specs.Prelude.{ℕ, ◌+◌, ◌-◌}
use Rattle.interval.specs.declared.Interval.{Interval}
use Rattle.octets.specs.declared.Coder.{Coder}
use Rattle.top.specs.declared.Top.{Top}

-- the string moved to the bottom: the lower end is the top less the width
abbrev pub bottom_of : Top → Coder
bottom_of t = record {
  interval = record { low = t.top - t.width; width = t.width; count = t.count };
  until = t.until;
  held = t.held;
}

-- the string moved to the top
abbrev pub above_of : Coder → Top
above_of c = record {
  top = c.interval.low + c.interval.width;
  width = c.interval.width;
  count = c.interval.count;
  until = c.until;
  held = c.held;
}

-- expected pels with no shift, whose sizes add up to n: the width alone
abbrev pub narrowed : ℕ → Top → Top
narrowed n t = record { top = t.top; width = t.width - n; count = t.count; until = t.until; held = t.held }

-- another interval, with the string at its bottom and no byte made
abbrev pub within : Interval → Top → Coder
within i t = record { interval = i; until = t.until; held = t.held }

-- k shifts, and no byte
abbrev pub waited : ℕ → Top → Top
waited k t = record { top = t.top; width = t.width; count = t.count; until = t.until - k; held = t.held }
