-- A pel of a packed row is the definition's. Assumes nothing.
use mathlib.Core.Path.{refl}
use native.Mathlib.Omega.{arith}
use Rattle.template.specs.Pels.{pel_at}
use Rattle.template.proofs.pel_at.Goals as goal

pub returns : goal.returns
unfolding pel_at
returns c = (refl, omega arith)
