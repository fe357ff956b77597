-- The desk's parts in memory, read as a desk: line i of the book with what stands at i in the arrays. Assumes nothing.
use Rattle.std.specs.Prelude.{ℕ, ◌≡◌, List, [], ◌∷◌, length}
use Rattle.limits.specs.Limits.{max_pages, max_places}
use Rattle.parts.specs.declared.PageLine.{PageLine}
use Rattle.parts.specs.declared.PlaceLine.{PlaceLine}
use Rattle.parts.specs.declared.Book.{Book}
use Rattle.parts.specs.declared.Parts.{Parts}
use Rattle.desk.specs.Desk.{Page, Place, Desk}

-- a page: a line of the book, with its working table and its last row
abbrev pub as_page : PageLine → List ℕ → List ℕ → Page
as_page l table last =
    record { state = l.state; key = l.key; width = l.width; table = record { entries = table }; last = last }

-- a place: a line of the book, with its learned table
abbrev pub as_place : PlaceLine → List ℕ → Place
as_place l table = record { state = l.state; key = l.key; table = record { entries = table } }

-- f of what stands at each index of both lists
unfoldable pub beside : {A B C : Type 0} → (A → B → C) → List A → List B → List C
beside f [] ys = []
beside f (x ∷ xs) [] = []
beside f (x ∷ xs) (y ∷ ys) = f x y ∷ beside f xs ys

-- the pages: each line of the book with what stands at its index in the two arrays
abbrev pub pages_of : List PageLine → List (List ℕ) → List (List ℕ) → List Page
pages_of lines tables lasts =
    beside (λ (p : PageLine × List ℕ) last. as_page p.0 p.1 last) (beside (λ l t. (l, t)) lines tables) lasts

-- the places: each line of the book with what stands at its index in the array
abbrev pub places_of : List PlaceLine → List (List ℕ) → List Place
places_of lines tables = beside as_place lines tables

-- the parts in memory, read as a desk
abbrev pub desk_of : Parts → Desk
desk_of p = record {
  pages = pages_of p.book.pages p.working p.rows;
  places = places_of p.book.places p.learned;
}

-- the book and the three arrays, as parts
abbrev pub parts_of : Book → List (List ℕ) → List (List ℕ) → List (List ℕ) → Parts
parts_of book working rows learned = record { book = book; working = working; rows = rows; learned = learned }

-- the arrays have as many elements as their types say
abbrev pub Sized : List (List ℕ) → List (List ℕ) → List (List ℕ) → Type 0
Sized working rows learned = (length working ≡ max_pages) × (length rows ≡ max_pages) × (length learned ≡ max_places)

-- every part has as many elements as its type says: the book's lines, and the arrays
pub record Whole (p : Parts) : Type 0 where
  pub pages : length p.book.pages ≡ max_pages
  pub places : length p.book.places ≡ max_places
  pub arrays : Sized p.working p.rows p.learned
