-- The doublings of a pel, in steps up to the next byte. Assumes nothing.
use Rattle.std.specs.Prelude.{ℕ, zero, suc}
use Rattle.octets.specs.Octets.{Registers, due, double}

-- ---- k doublings
unfoldable pub steps : ℕ → Registers → Registers
steps zero w = w
steps (suc k) w = steps k (due (double w))
