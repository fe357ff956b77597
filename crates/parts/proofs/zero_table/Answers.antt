-- All of it is zero. Assumes nothing.
use mathlib.Core.Path.{refl}
use Rattle.desk.specs.Places.{zero_table}
use Rattle.parts.proofs.zero_table.Goals as goal

pub returns : goal.returns
unfolding zero_table
returns c = refl
