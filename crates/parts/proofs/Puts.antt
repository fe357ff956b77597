-- What is put among the parts is put in the desk. Assumes nothing.
use Prim.Native.Nat.{ℕ}
use mathlib.Core.Path.{◌≡◌, refl, ap, ◌∙◌}
use mathlib.Core.List.{List}
use lib.ListN.{length, set, length-set}
use Rattle.std.specs.Prelude.{Some, None}
use Rattle.parts.specs.declared.Parts.{Parts}
use Rattle.parts.specs.declared.PageLine.{PageLine}
use Rattle.parts.specs.declared.PlaceLine.{PlaceLine}
use Rattle.desk.specs.Places.{Found}
use Rattle.desk.specs.Desk.{Page, Place}
use Rattle.parts.specs.Parts.{as_page, as_place, pages_of, places_of, Whole}
use Rattle.parts.proofs.Beside.{set-beside}
use Rattle.parts.proofs.Lines.{set-pages}
use Rattle.desk.specs.Changes.{set_at}
use Rattle.parts.specs.Puts.{PagePut, PlacePut}

-- ---- the stores that do it
pub page-put : (p : Parts) (i : ℕ) (l : PageLine) (t r : List ℕ)
    → PagePut p i (as_page l t r) (record {
      book = record { pages = set p.book.pages i l; places = p.book.places };
      working = set p.working i t;
      rows = set p.rows i r;
      learned = p.learned;
    })
page-put p i l t r =
    record {
      places = refl;
      learned = refl;
      pages = set-pages p.book.pages p.working p.rows i l t r;
      sizes = (length-set p.book.pages i l, length-set p.working i t, length-set p.rows i r);
    }

pub place-put : (p : Parts) (found : Found) (i : ℕ) (l : PlaceLine) (t : List ℕ) → found ≡ Some i
    → PlacePut p found (as_place l t) (record {
      book = record { pages = p.book.pages; places = set p.book.places i l };
      working = p.working;
      rows = p.rows;
      learned = set p.learned i t;
    })
place-put p found i l t e =
    record {
      pages = refl;
      working = refl;
      rows = refl;
      places = rw e (set-beside as_place p.book.places p.learned i l t);
      sizes = (length-set p.book.places i l, length-set p.learned i t);
    }

pub no-place-put : (p : Parts) (found : Found) (place : Place) → found ≡ None → PlacePut p found place p
no-place-put p found place e =
    record { pages = refl; working = refl; rows = refl; places = rw e; sizes = (refl, refl) }

-- the same page, the same place
pub page-as : {p q : Parts} {i : ℕ} {a b : Page} → a ≡ b → PagePut p i a q → PagePut p i b q
page-as {p = p} {i = i} e x =
    record {
      places = x.places;
      learned = x.learned;
      pages = x.pages ∙ ap (set (pages_of p.book.pages p.working p.rows) i) e;
      sizes = x.sizes;
    }

pub place-as : {p q : Parts} {found : Found} {a b : Place} → a ≡ b → PlacePut p found a q → PlacePut p found b q
place-as {p = p} {found = found} e x =
    record {
      pages = x.pages;
      working = x.working;
      rows = x.rows;
      places = x.places ∙ ap (λ (q : Place). set_at found q (places_of p.book.places p.learned)) e;
      sizes = x.sizes;
    }

-- every part keeps its size
module _ {p q : Parts} (w : Whole p) where
  pub page-whole : {i : ℕ} {page : Page} → PagePut p i page q → Whole q
  page-whole x =
      record {
        pages = x.sizes.0 ∙ w.pages;
        places = ap (λ (ls : List PlaceLine). length ls) x.places ∙ w.places;
        arrays = (
          x.sizes.1 ∙ w.arrays.0,
          x.sizes.2 ∙ w.arrays.1,
          ap (λ (ts : List (List ℕ)). length ts) x.learned ∙ w.arrays.2,
        );
      }

  pub place-whole : {found : Found} {place : Place} → PlacePut p found place q → Whole q
  place-whole x =
      record {
        pages = ap (λ (ls : List PageLine). length ls) x.pages ∙ w.pages;
        places = x.sizes.0 ∙ w.places;
        arrays = (
          ap (λ (ts : List (List ℕ)). length ts) x.working ∙ w.arrays.0,
          ap (λ (ts : List (List ℕ)). length ts) x.rows ∙ w.arrays.1,
          x.sizes.1 ∙ w.arrays.2,
        );
      }
