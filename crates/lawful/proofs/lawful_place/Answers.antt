-- By whether it is used; its state says how high its entries may be. Assumes nothing.
use mathlib.Core.Path.{ap, ap₂, ◌∙◌}
use Prim.Native.Nat.{ℕ}
use mathlib.Core.Bool.{not, ◌&&◌}
use lib.Dec.{eqb}
use borrow.Author.Tests.{ne_eqb}
use Rattle.lawful.specs.Highest.{low}
use Rattle.lawful.proofs.Each.{free-made, used-made}
use Rattle.lawful.proofs.lawful_place.Goals as goal

pub returns-then-q-eq0 : goal.returns-then-q-eq0
returns-then-q-eq0 c = let a = c.args in
    free-made _ _ _ c.if-q-eq0.true
    (c.eq.ensures ∙ ap₂ (λ (m n : ℕ). eqb a.q.key.school m && eqb a.q.key.class n) c.default.ensures.0
    c.default.ensures.1)
    (c.is_low-low.ensures ∙ ap (λ (n : ℕ). low n a.table.now) c.top_entry.ensures)

pub returns : goal.returns
returns c = let a = c.args in
    used-made _ _ _ (ap not (ne_eqb _ _ c.if-q-eq0.false)) c.lawful_key.ensures
    (c.is_low-low.ensures ∙ ap (λ (n : ℕ). low n a.table.now) c.top_entry.ensures)
