-- By whether the table is learned. Assumes nothing.
use borrow.Author.Tests.{eq-eqb, ne_eqb}
use Rattle.lawful.proofs.top_entry.Goals as goal

pub returns-then-state-eq2 : goal.returns-then-state-eq2
returns-then-state-eq2 c = rw (eq-eqb _ _ c.if-state-eq2.true)

pub returns : goal.returns
returns c = rw (ne_eqb _ _ c.if-state-eq2.false)
