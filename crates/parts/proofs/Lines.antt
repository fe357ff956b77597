-- The parts read as a desk: the lines are found in it, and what is put among the parts is put in it. Assumes nothing.
use Prim.Native.Nat.{ℕ}
use mathlib.Core.Path.{◌≡◌, refl, sym, ap, ◌∙◌}
use mathlib.Core.List.{List, [], map}
use lib.ListN.{length, get_or, set}
use Rattle.parts.specs.declared.PageLine.{PageLine}
use Rattle.parts.specs.declared.PlaceLine.{PlaceLine}
use Rattle.parts.specs.declared.Parts.{Parts}
use Rattle.parts.specs.declared.Sought.{Sought}
use Rattle.desk.specs.Desk.{Page, Place, Desk}
use Rattle.parts.specs.Parts.{as_page, as_place, beside, pages_of, places_of, desk_of, Whole}
use Rattle.desk.specs.Places.{no_page, no_place, find_by}
use Rattle.parts.specs.Finding.{page_sought, place_sought}
use Rattle.parts.proofs.Beside.{set-beside, get-beside, length-beside, left-beside, right-beside, map-twice}
use Rattle.parts.proofs.Beside.{find-map}
use Rattle.parts.specs.Lines.{no_page_line, page_line_of, no_place_line, place_line_of}

abbrev paired : PageLine → List ℕ → PageLine × List ℕ
paired l t = (l, t)

abbrev joined : PageLine × List ℕ → List ℕ → Page
joined p last = as_page p.0 p.1 last

pub set-pages : (ls : List PageLine) (ts rs : List (List ℕ)) (i : ℕ) (l : PageLine) (t r : List ℕ)
    → pages_of (set ls i l) (set ts i t) (set rs i r) ≡ set (pages_of ls ts rs) i (as_page l t r)
set-pages ls ts rs i l t r =
    ap (λ (ps : List (PageLine × List ℕ)). beside joined ps (set rs i r)) (set-beside paired ls ts i l t)
    ∙ set-beside joined (beside paired ls ts) rs i (l, t) r

module _ (ls : List PageLine) (ts rs : List (List ℕ)) (e : length ls ≡ length ts) (f : length ls ≡ length rs) where
  pairs-long : length (beside paired ls ts) ≡ length rs
  pairs-long = length-beside paired ls ts e ∙ f

  pub get-pages : (i : ℕ) → get_or (pages_of ls ts rs) i no_page ≡ as_page (get_or ls i no_page_line) (get_or ts i [])
      (get_or rs i [])
  get-pages i =
      get-beside joined (beside paired ls ts) rs i (no_page_line, []) [] pairs-long
      ∙ ap (λ (p : PageLine × List ℕ). joined p (get_or rs i [])) (get-beside paired ls ts i no_page_line [] e)

  pub length-pages : length (pages_of ls ts rs) ≡ length ls
  length-pages = length-beside joined (beside paired ls ts) rs pairs-long ∙ length-beside paired ls ts e

  -- what was joined can be read off again
  pairs-off : map (λ (p : Page). (page_line_of p, p.table.entries)) (pages_of ls ts rs) ≡ beside paired ls ts
  pairs-off =
      left-beside joined (λ p. (page_line_of p, p.table.entries)) (λ x y. refl) (beside paired ls ts) rs pairs-long

  pub lines-off : map page_line_of (pages_of ls ts rs) ≡ ls
  lines-off =
      map-twice (λ (p : Page). (page_line_of p, p.table.entries)) (λ (x : PageLine × List ℕ). x.0) (pages_of ls ts rs)
      ∙ ap (map (λ (x : PageLine × List ℕ). x.0)) pairs-off ∙ left-beside paired (λ x. x.0) (λ x y. refl) ls ts e

  tables-off : map (λ (p : Page). p.table.entries) (pages_of ls ts rs) ≡ ts
  tables-off =
      map-twice (λ (p : Page). (page_line_of p, p.table.entries)) (λ (x : PageLine × List ℕ). x.1) (pages_of ls ts rs)
      ∙ ap (map (λ (x : PageLine × List ℕ). x.1)) pairs-off ∙ right-beside paired (λ x. x.1) (λ x y. refl) ls ts e

  rows-off : map (λ (p : Page). p.last) (pages_of ls ts rs) ≡ rs
  rows-off = right-beside joined (λ p. p.last) (λ x y. refl) (beside paired ls ts) rs pairs-long

module _ (ls : List PlaceLine) (ts : List (List ℕ)) (e : length ls ≡ length ts) where
  pub get-places : (i : ℕ) → get_or (places_of ls ts) i no_place ≡ as_place (get_or ls i no_place_line) (get_or ts i [])
  get-places i = get-beside as_place ls ts i no_place_line [] e

  pub place-lines-off : map place_line_of (places_of ls ts) ≡ ls
  place-lines-off = left-beside as_place place_line_of (λ x y. refl) ls ts e

  learned-off : map (λ (q : Place). q.table.entries) (places_of ls ts) ≡ ts
  learned-off = right-beside as_place (λ q. q.table.entries) (λ x y. refl) ls ts e

-- ---- the parts have one length each
module _ (p : Parts) (w : Whole p) where
  pub tables-long : length p.book.pages ≡ length p.working
  tables-long = w.pages ∙ sym w.arrays.0

  pub rows_long : length p.book.pages ≡ length p.rows
  rows_long = w.pages ∙ sym w.arrays.1

  pub learned-long : length p.book.places ≡ length p.learned
  learned-long = w.places ∙ sym w.arrays.2

  -- a search over the book finds what a search of the desk does
  pub find-pages : (s : Sought)
      → find_by (λ (q : Page). page_sought s (page_line_of q)) (desk_of p).pages 0 ≡ find_by (page_sought s) p.book.pages
      0
  find-pages s =
      find-map page_line_of (page_sought s) (desk_of p).pages 0
      ∙ ap (λ (ls : List PageLine). find_by (page_sought s) ls 0) (lines-off _ _ _ tables-long rows_long)

  pub find-places : (s : Sought)
      → find_by (λ (q : Place). place_sought s (place_line_of q)) (desk_of p).places 0 ≡ find_by (place_sought s)
      p.book.places 0
  find-places s =
      find-map place_line_of (place_sought s) (desk_of p).places 0
      ∙ ap (λ (ls : List PlaceLine). find_by (place_sought s) ls 0) (place-lines-off _ _ learned-long)

  pub page-in : (i : ℕ) → get_or (desk_of p).pages i no_page ≡ as_page (get_or p.book.pages i no_page_line)
      (get_or p.working i []) (get_or p.rows i [])
  page-in i = get-pages _ _ _ tables-long rows_long i

  pub place_in : (i : ℕ) → get_or (desk_of p).places i no_place ≡ as_place (get_or p.book.places i no_place_line)
      (get_or p.learned i [])
  place_in i = get-places _ _ learned-long i

-- ---- the desk says every part: two sets of parts, of their types' sizes, that are read as one desk are one
pub same_parts : (p q : Parts) → Whole p → Whole q → desk_of p ≡ desk_of q → p ≡ q
same_parts p q w v e =
    λ i. record {
      book = record { pages = pages i; places = places i };
      working = working i;
      rows = rows i;
      learned = learned i;
    }
  where
    pages : p.book.pages ≡ q.book.pages
    pages =
        sym (lines-off _ _ _ (tables-long p w) (rows_long p w)) ∙ ap (λ (d : Desk). map page_line_of d.pages) e
        ∙ lines-off _ _ _ (tables-long q v) (rows_long q v)

    places : p.book.places ≡ q.book.places
    places =
        sym (place-lines-off _ _ (learned-long p w)) ∙ ap (λ (d : Desk). map place_line_of d.places) e
        ∙ place-lines-off _ _ (learned-long q v)

    working : p.working ≡ q.working
    working =
        sym (tables-off _ _ _ (tables-long p w) (rows_long p w))
        ∙ ap (λ (d : Desk). map (λ (x : Page). x.table.entries) d.pages) e
        ∙ tables-off _ _ _ (tables-long q v) (rows_long q v)

    rows : p.rows ≡ q.rows
    rows =
        sym (rows-off _ _ _ (tables-long p w) (rows_long p w)) ∙ ap (λ (d : Desk). map (λ (x : Page). x.last)
        d.pages) e
        ∙ rows-off _ _ _ (tables-long q v) (rows_long q v)

    learned : p.learned ≡ q.learned
    learned =
        sym (learned-off _ _ (learned-long p w)) ∙ ap (λ (d : Desk). map (λ (x : Place). x.table.entries)
        d.places) e
        ∙ learned-off _ _ (learned-long q v)
