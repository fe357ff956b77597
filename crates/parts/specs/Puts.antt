-- A page put in its slot, a place put where one was found: among the parts. Assumes nothing.
use Rattle.std.specs.Prelude.{ℕ, ◌≡◌, length, set}
use Rattle.desk.specs.Desk.{Page, Place}
use Rattle.desk.specs.Places.{Found}
use Rattle.desk.specs.Changes.{set_at}
use Rattle.parts.specs.declared.Parts.{Parts}
use Rattle.parts.specs.Parts.{pages_of, places_of}

-- the page in slot i; the places are as they were
pub record PagePut (p : Parts) (i : ℕ) (page : Page) (q : Parts) : Type 0 where
  pub places : q.book.places ≡ p.book.places
  pub learned : q.learned ≡ p.learned
  pub pages : pages_of q.book.pages q.working q.rows ≡ set (pages_of p.book.pages p.working p.rows) i page
  pub sizes : (length q.book.pages ≡ length p.book.pages) × (length q.working ≡ length p.working)
      × (length q.rows ≡ length p.rows)

-- the place where one was found; the pages are as they were
pub record PlacePut (p : Parts) (found : Found) (place : Place) (q : Parts) : Type 0 where
  pub pages : q.book.pages ≡ p.book.pages
  pub working : q.working ≡ p.working
  pub rows : q.rows ≡ p.rows
  pub places : places_of q.book.places q.learned ≡ set_at found place (places_of p.book.places p.learned)
  pub sizes : (length q.book.places ≡ length p.book.places) × (length q.learned ≡ length p.learned)
