-- `Table::fresh` is the repeated array of zero bytes. Assumes nothing.
use mathlib.Core.Path.{refl}
use Rattle.estimate.specs.Estimate.{fresh}
use Rattle.estimate.proofs.Table.fresh.Goals as goal

pub returns : goal.returns
unfolding fresh
returns c = refl
