-- The first pair that is a marker decides. Assumes nothing.
use native.Mathlib.Omega.{arith}
use Rattle.std.proofs.lemmas.Grind.{common_steps}
use Rattle.marker.proofs.Pairs.{marks}
use Rattle.marker.proofs.marked.Goals as goal

pub returns : goal.returns
returns c = let code = c.args.code.now in marks code c.any.result (grind (arith, common_steps))
