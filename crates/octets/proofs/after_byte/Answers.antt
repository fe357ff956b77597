-- The registers after a byte, field by field. Assumes nothing.
use mathlib.Core.Path.{refl}
use Rattle.octets.proofs.after_byte.Goals as goal

pub returns : goal.returns
returns c = refl
