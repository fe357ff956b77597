-- One byte after FF, none after any other. Assumes nothing.
use mathlib.Core.Path.{sym, ap}
use mathlib.Core.List.{[], ◌∷◌}
use Prim.Native.Nat.{ℕ}
use native.Mathlib.Omega.{arith}
use lib.ListN.{length}
use Rattle.ground.proofs.Tests.{if-ne}
use Rattle.octets.specs.Octets.{follows}
use Rattle.octets.proofs.following.Goals as goal

pub returns-then-b-eq255 : goal.returns-then-b-eq255
unfolding follows
returns-then-b-eq255 c = (sym (ap (λ (b : ℕ). length (follows b)) c.if-b-eq255.true), omega arith)

pub returns-else-b-eq255 : goal.returns-else-b-eq255
unfolding follows
returns-else-b-eq255 c = (sym (ap length (if-ne c.args.b 255 (0 ∷ []) [] c.if-b-eq255.false)), omega arith)
