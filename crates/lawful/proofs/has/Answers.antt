-- A search finds one where there is one. Assumes nothing.
use mathlib.Core.Path.{ap, ◌∙◌}
use Rattle.desk.specs.Places.{is_found}
use Rattle.desk.proofs.OpenPages.{found-any}
use Rattle.lawful.proofs.has.Goals as goal

pub returns : goal.returns
returns g c = c.is_some.ensures ∙ ap is_found c.find.ensures.0 ∙ found-any _ _ _
