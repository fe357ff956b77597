-- What a lookup found, as an option. Assumes nothing.
use mathlib.Core.Path.{◌≡◌, refl}
use Rattle.ground.specs.Options.{given}
use Rattle.desk.specs.Places.{Found}
use Rattle.std.specs.Prelude.{Some, None}
use Rattle.desk.specs.Desk.{Desk}
use Rattle.desk.specs.Places.{is_found}
use Rattle.desk.specs.Standing.{page_by, table_by}

pub found-page : (d : Desk) (f : Found) → given (page_by d f) ≡ is_found f
found-page d (Some i) = refl
found-page d None = refl

pub found-table : (d : Desk) (f : Found) → given (table_by d f) ≡ is_found f
found-table d (Some i) = refl
found-table d None = refl
