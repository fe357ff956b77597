-- A byte that goes out is the definition's, at the scale. Assumes nothing.
use mathlib.Core.Path.{refl}
use native.Mathlib.Omega.{arith}
use Rattle.octets.proofs.Lift.{out-ff, out-to-ff, out-plain, one-carry, small-ff, small-to-ff, small_plain}
use Rattle.octets.proofs.byte_out.Goals as goal

pub returns-then-held-eq255 : goal.returns-then-held-eq255
returns-then-held-eq255 c = let a = c.args in (
  small-ff a.low a.scale (omega arith) (omega arith),
  (λ k e. out-ff a.held k a.scale a.low (omega arith) e c.if-held-eq255.true),
)

pub overflow_add-b : goal.overflow_add-b
overflow_add-b c = let a = c.args in omega (arith, one-carry a.low a.scale (omega arith) (omega arith))

pub returns-then-b-eq255 : goal.returns-then-b-eq255
returns-then-b-eq255 c = let a = c.args in (
  small-to-ff a.low a.scale (omega arith),
  (λ k e. out-to-ff a.held k a.scale a.low (omega arith) e c.if-held-eq255.false c.if-b-eq255.true),
)

pub overflow_cast-result : goal.overflow_cast-result
overflow_cast-result c = let a = c.args in
    omega (arith, one-carry a.low a.scale (omega arith) (omega arith))

pub returns : goal.returns
returns c = let a = c.args in (
  small_plain _ a.low a.scale (omega arith),
  (λ k e. out-plain a.held k a.scale a.low (omega arith) e c.if-held-eq255.false _ refl c.if-b-eq255.false),
)
