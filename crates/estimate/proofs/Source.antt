-- Source document 000's table is what our rows and next rows give. Assumes nothing.
use mathlib.Core.Path.{◌≡◌, refl}
use mathlib.Core.List.{map}
use Rattle.estimate.specs.Estimate.{row_of, rise, fall, flip}
use Rattle.estimate.specs.Source.{source, ruled, numbers_from}

-- Source document 000's table agrees after its left shift of three places.
pub agrees : source ≡ map ruled (numbers_from 0 30)
unfolding source ruled numbers_from row_of rise fall flip
agrees = refl
