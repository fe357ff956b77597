-- A shift of 1 is a power of two. Assumes nothing.
use mathlib.Core.Path.{◌∙◌}
use native.Mathlib.Omega.{arith}
use native.Mathlib.Nat.{one-mul}
use lib.Pow.{shl_exact}
use Rattle.octets.proofs.power.Goals as goal

pub returns : goal.returns
returns c = shl_exact {a = 1} 1 c.args.j 64 (omega arith) (omega arith) ∙ one-mul _
