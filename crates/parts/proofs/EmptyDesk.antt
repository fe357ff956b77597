-- The parts of an empty desk: every line of the book and every byte is zero. Assumes nothing.
use Prim.Native.Nat.{ℕ, zero, suc}
use mathlib.Core.Path.{◌≡◌, refl, ap, ◌∙◌}
use mathlib.Core.List.{List, ◌∷◌}
use lib.ListN.{length, replicate}
use Rattle.limits.specs.Limits.{max_pages, max_places, contexts, last_bytes}
use Rattle.band.specs.Band.{white}
use Rattle.parts.specs.declared.PageLine.{PageLine}
use Rattle.parts.specs.declared.PlaceLine.{PlaceLine}
use Rattle.parts.specs.declared.Parts.{Parts}
use Rattle.desk.specs.Desk.{Page}
use Rattle.parts.specs.Parts.{as_page, as_place, beside, pages_of, places_of, parts_of, desk_of, Whole}
use Rattle.parts.specs.Lines.{no_page_line, no_place_line}
use Rattle.desk.specs.Places.{zero_table, unused_page, free_place, empty_desk}

-- ---- lines of nothing but zeros
pub unused-line : (l : PageLine) → (l.state ≡ 0) × (((l.key.school ≡ 0) × (l.key.class ≡ 0)) × (l.width ≡ 0))
    → l ≡ no_page_line
unused-line l e = λ i. record { state = e.0 i; key = record { school = e.1.0.0 i; class = e.1.0.1 i }; width = e.1.1 i }

pub free-line : (l : PlaceLine) → (l.state ≡ 0) × ((l.key.school ≡ 0) × (l.key.class ≡ 0)) → l ≡ no_place_line
free-line l e = λ i. record { state = e.0 i; key = record { school = e.1.0 i; class = e.1.1 i } }

-- ---- the parts that have no others
beside-replicate : {A B C : Type 0} (f : A → B → C) (n : ℕ) (x : A) (y : B) → beside f (replicate n x) (replicate n y)
    ≡ replicate n (f x y)
unfolding beside
beside-replicate f zero x y = refl
beside-replicate {C = C} f (suc n) x y = ap (λ (zs : List C). f x y ∷ zs) (beside-replicate f n x y)

long : {A : Type 0} (n : ℕ) (x : A) → length (replicate n x) ≡ n
long zero x = refl
long (suc n) x = ap suc (long n x)

abbrev no_bytes : ℕ → List ℕ
no_bytes n = replicate n 0

abbrev zeros : ℕ → ℕ → List (List ℕ)
zeros n m = replicate m (no_bytes n)

abbrev pub empty_parts : Parts
empty_parts =
    parts_of (record { pages = replicate max_pages no_page_line; places = replicate max_places no_place_line })
    (zeros contexts max_pages) (zeros last_bytes max_pages) (zeros contexts max_places)

pub empty-whole : Whole empty_parts
empty-whole =
    record {
      pages = long max_pages no_page_line;
      places = long max_places no_place_line;
      arrays = (long max_pages (no_bytes contexts), long max_pages (no_bytes last_bytes), long max_places (no_bytes contexts));
    }

abbrev paired : PageLine → List ℕ → PageLine × List ℕ
paired l t = (l, t)

abbrev joined : PageLine × List ℕ → List ℕ → Page
joined p last = as_page p.0 p.1 last

pages-empty : (n : ℕ) → pages_of (replicate n no_page_line) (zeros contexts n) (zeros last_bytes n) ≡ replicate n unused_page
unfolding unused_page zero_table white
pages-empty n =
    ap (λ (ps : List (PageLine × List ℕ)). beside joined ps (zeros last_bytes n)) (beside-replicate paired n no_page_line
    (no_bytes contexts))
    ∙ beside-replicate joined n (no_page_line, no_bytes contexts) (no_bytes last_bytes)

places-empty : (n : ℕ) → places_of (replicate n no_place_line) (zeros contexts n) ≡ replicate n free_place
unfolding free_place zero_table
places-empty n = beside-replicate as_place n no_place_line (no_bytes contexts)

pub reads-empty : desk_of empty_parts ≡ empty_desk
unfolding empty_desk
reads-empty = λ i. record { pages = pages-empty max_pages i; places = places-empty max_places i }
