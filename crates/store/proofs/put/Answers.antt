-- One byte stored, where there is room. Assumes nothing.
use mathlib.Core.Path.{refl, sym, ◌∙◌}
use native.Mathlib.Omega.{arith}
use lib.Seq.{set_out}
use Rattle.store.proofs.Store.{store-none, store-some}
use Rattle.store.proofs.put.Goals as goal

pub returns-then-at-eq0 : goal.returns-then-at-eq0
returns-then-at-eq0 c = (omega arith, store-none _ _ _ c.if-at-eq0.true)

pub returns-then-at-out : goal.returns-then-at-out
returns-then-at-out c = (refl, store-some _ _ _ c.if-at-eq0.false)

pub returns : goal.returns
returns c = (refl, sym (set_out _ _ _ c.if-at-out.false) ∙ store-some _ _ _ c.if-at-eq0.false)
