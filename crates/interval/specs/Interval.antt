-- Document 01, "The interval and its bytes": the interval, one pel, the doublings. Assumes nothing.
use Rattle.std.specs.Prelude.{ℕ, zero, suc, ◌+◌, ◌-◌, ◌*◌, Bool, cond, ltb}
use Rattle.interval.specs.declared.Interval.{Interval}

-- What is coded of a pel: the row's value Q, and whether the pel is the expected one.
pub record Decision : Type 0 where
  pub q : ℕ
  pub expected : Bool

-- a decision by its two parts
abbrev pub decision : ℕ → Bool → Decision
decision q e = record { q = q; expected = e }

-- Width A starts at 1000 hex, meaning 1.0, and the lower end at 0.
abbrev pub whole : Interval
whole = record { low = 0; width = 0x1000; count = 0 }

-- The expected pel takes the upper part: lower end up by Q, width A - Q.
abbrev pub upper_part : ℕ → Interval → Interval
upper_part q i = record { low = i.low + q; width = i.width - q; count = i.count }

-- The unexpected pel takes the lower part: width Q, same lower end.
abbrev pub lower_part : ℕ → Interval → Interval
lower_part q i = record { low = i.low; width = q; count = i.count }

-- the pel's part of the interval
abbrev pub part_of : Decision → Interval → Interval
part_of d i = cond d.expected (upper_part d.q i) (lower_part d.q i)

-- Both are doubled; each doubling is one shift.
abbrev pub doubled : Interval → Interval
doubled i = record { low = 2 * i.low; width = 2 * i.width; count = suc i.count }

-- While the width is below 1000 hex: n doublings at the most. Twelve are enough for any width but 0.
unfoldable pub grown : ℕ → Interval → Interval
grown zero i = i
grown (suc n) i = let r : Interval = grown n (doubled i) in cond (ltb i.width 0x1000) r i

-- how many doublings that is
unfoldable pub doublings : ℕ → ℕ → ℕ
doublings zero a = 0
doublings (suc n) a = let k : ℕ = suc (doublings n (2 * a)) in cond (ltb a 0x1000) k 0

-- One pel: its part of the interval, and the doublings.
abbrev pub coded : Decision → Interval → Interval
coded d i = grown 12 (part_of d i)
