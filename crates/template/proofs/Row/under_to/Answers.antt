-- Two places before the first black pel above, or at the right edge. Assumes nothing.
use native.Mathlib.Omega.{arith}
use Rattle.template.proofs.White.{under-white}
use Rattle.template.proofs.Row.under_to.Goals as goal

pub returns-then-self-y : goal.returns-then-self-y
returns-then-self-y c = let row = c.args.self in (
  omega arith,
  omega arith,
  under-white row.bytes.now row.width _ _ _ c.white_to-y.ensures.1
      (λ z k l. omega (arith, c.if-self-y.true)),
)

pub returns : goal.returns
returns c = let row = c.args.self in (
  omega arith,
  omega arith,
  under-white row.bytes.now row.width _ _ _ c.white_to-y.ensures.1
      (λ z k l. omega arith),
)
