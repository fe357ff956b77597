-- By whether it is open. Assumes nothing.
use borrow.Author.Tests.{eq-eqb, ne_eqb}
use Rattle.desk.specs.Lawful.{lawful_page}
use Rattle.lawful.proofs.lawful_page.Goals as goal

pub returns-then-p-eq0 : goal.returns-then-p-eq0
unfolding lawful_page
returns-then-p-eq0 c = rw (eq-eqb _ _ c.if-p-eq0.true) c.unused_right.ensures

pub returns : goal.returns
unfolding lawful_page
returns c = rw (ne_eqb _ _ c.if-p-eq0.false) c.open_right.ensures
