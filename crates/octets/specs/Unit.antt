-- The unit of the held byte, a power of two. Assumes nothing.
use Rattle.std.specs.Prelude.{ℕ, ◌-◌, ◌^◌}

-- the unit of the held byte, when t shifts are to go
unfoldable pub unit : ℕ → ℕ
unit t = 2 ^ (24 - t)
