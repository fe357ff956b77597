-- A pel of a row, and 0 past its right edge. Assumes nothing.
use mathlib.Core.Path.{sym, ◌∙◌}
use native.Mathlib.Omega.{arith}
use Rattle.template.proofs.Sliding.{pels-at, pels-past}
use Rattle.template.proofs.Row.edge_pel.Goals as goal

pub returns-then-x-self : goal.returns-then-x-self
returns-then-x-self c = (c.pel_at.ensures.0 ∙ sym (pels-at _ _ _ c.if-x-self.true), omega arith)

pub returns : goal.returns
returns c = (sym (pels-past _ _ _ c.if-x-self.false), omega arith)
