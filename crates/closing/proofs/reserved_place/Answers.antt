-- By whether the class has a table. Assumes nothing.
use mathlib.Core.Path.{sym, ap, ◌∙◌}
use Rattle.desk.specs.Places.{is_found}
use Rattle.closing.proofs.Leaving.{none-reserved, one-reserved}
use Rattle.closing.proofs.reserved_place.Goals as goal

pub returns-then-is_some : goal.returns-then-is_some
returns-then-is_some c = let a = c.args in (
  none-reserved a.key a.desk.now.book.places (ap is_found (sym c.find_place.ensures.0) ∙ sym c.is_some.ensures
      ∙ c.if-is_some.true),
  tt,
)

pub returns : goal.returns
returns c = let a = c.args in (
  c.find_place-2.ensures.0
      ∙ one-reserved a.key a.desk.now.book.places (ap is_found (sym c.find_place.ensures.0) ∙ sym c.is_some.ensures
      ∙ c.if-is_some.false),
  c.find_place-2.ensures.1,
)
