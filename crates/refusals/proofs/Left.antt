-- The desk that a page or a place put among the parts leaves. Assumes nothing.
use mathlib.Core.Path.{◌≡◌}
use Prim.Native.Nat.{ℕ}
use lib.ListN.{set}
use Rattle.parts.specs.declared.Parts.{Parts}
use Rattle.desk.specs.Desk.{Page, Place}
use Rattle.desk.specs.Places.{Found}
use Rattle.desk.specs.Changes.{set_at}
use Rattle.parts.specs.Parts.{pages_of, places_of, desk_of}
use Rattle.parts.specs.Puts.{PagePut, PlacePut}

module _ {p q : Parts} where
  pub page-left : {i : ℕ} {page : Page} → PagePut p i page q
      → desk_of q ≡ record { pages = set (desk_of p).pages i page; places = (desk_of p).places }
  page-left x = λ j. record { pages = x.pages j; places = places_of (x.places j) (x.learned j) }

  pub place-left : {found : Found} {place : Place} → PlacePut p found place q
      → desk_of q ≡ record { pages = (desk_of p).pages; places = set_at found place (desk_of p).places }
  place-left x = λ j. record { pages = pages_of (x.pages j) (x.working j) (x.rows j); places = x.places j }
