-- The place that a page only reserves. Assumes nothing.
use Rattle.std.specs.Prelude.{cond, List}
use Rattle.desk.specs.declared.Key.{Key}
use Rattle.parts.specs.declared.PlaceLine.{PlaceLine}
use Rattle.desk.specs.Places.{Found}
use Rattle.std.specs.Prelude.{None}
use Rattle.parts.specs.declared.Sought.TheVariants.{Used, Learned}
use Rattle.desk.specs.Places.{find_by, is_found}
use Rattle.parts.specs.Finding.{place_sought}

-- the place that the key's page only reserves, by the lines of the book
unfoldable pub reserved_found : Key → List PlaceLine → Found
reserved_found k lines =
    cond (is_found (find_by (place_sought (Learned k)) lines 0)) None (find_by (place_sought (Used k)) lines 0)
