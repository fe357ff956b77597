-- Whether there is a marker decides the refusal. Assumes nothing.
use mathlib.Core.Path.{sym, ap, ◌∙◌}
use Rattle.desk.specs.Refusals.{damage}
use Rattle.reading.proofs.fault.Goals as goal

pub returns-then-marked : goal.returns-then-marked
returns-then-marked c = ap damage (sym c.if-marked.true ∙ c.marked.ensures)

pub returns : goal.returns
returns c = ap damage (sym c.if-marked.false ∙ c.marked.ensures)
