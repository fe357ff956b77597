-- A lawful desk is one whose every page and place is right, in itself and beside the others. Assumes nothing.
use Prim.Native.Nat.{ℕ, zero, suc, ◌+◌, ◌-◌, ◌*◌, ◌%◌, ◌^◌, ◌≤◌}
use native.Mathlib.Omega.{arith}
use mathlib.Core.Path.{◌≡◌, refl, sym, ap, ap₂, ◌∙◌}
use mathlib.Core.Bool.{Bool, true, false, not, ◌&&◌, ◌||◌}
use mathlib.Core.List.{List, [], ◌∷◌, map}
use lib.Dec.{eqb, leb}
use lib.ListN.{length, get_or, take, drop, length-drop}
use lib.Seq.{get_or-take, take_all}
use Rattle.limits.specs.Limits.{max_width}
use Rattle.template.specs.Pels.{row_bytes, row_padded}
use Rattle.parts.specs.declared.PageLine.{PageLine}
use Rattle.parts.specs.declared.PlaceLine.{PlaceLine}
use Rattle.parts.specs.declared.Sought.TheVariants.{Used}
use Rattle.desk.specs.Desk.{Page, Place, Desk}
use Rattle.desk.specs.Places.{is_used, no_key, same_key, is_page_of, is_place_of, no_page, no_place}
use Rattle.desk.specs.Lawful.{within, all, any, apart, lawful_key, is_zero, no_stray, lawful_page, lawful_place, same_pages}
use Rattle.desk.specs.Lawful.{same_places, page_has_place, place_has_page, lawful}
use Rattle.parts.specs.Finding.{page_sought, place_sought}
use Rattle.parts.specs.Parts.{as_page, as_place, pages_of, places_of}
use Rattle.parts.proofs.Beside.{any-map}
use Rattle.parts.specs.Lines.{page_line_of, place_line_of, no_page_line, no_place_line}
use Rattle.parts.proofs.Lines.{get-pages, get-places, lines-off, place-lines-off}
use Rattle.lawful.specs.Highest.{low, top_entry}
use Rattle.lawful.proofs.HighestByte.{entries-low, zero-low, table-low}
use Rattle.lawful.specs.Every.{each}
use Rattle.lawful.specs.Each.{unused_right, open_right, page_known, place_known, page_right, place_right}

-- ---- their tests, as they are made
pub unused-made : (p : Page) (k a b : Bool) → k ≡ same_key p.key no_key → a ≡ low 0 p.table.entries
    → b ≡ low 0 p.last
    → (k && (eqb p.width 0 && (a && b))) ≡ unused_right p
unused-made p k a b e f g = rw (e, f, g, zero-low p.table.entries, zero-low p.last)

pub open-stops : (p : Page) → within 1 p.width max_width ≡ false → false ≡ open_right p
open-stops p w = rw w (go (leb p.state 2) (lawful_key p.key))
  where
    go : (a b : Bool) → false ≡ (a && (b && false))
    go true true = refl
    go true false = refl
    go false b = refl

pub open_made : (p : Page) (k a s : Bool) → within 1 p.width max_width ≡ true → k ≡ lawful_key p.key
    → a ≡ low 59 p.table.entries
    → s ≡ no_stray p.width p.last → (leb p.state 2 && (k && (a && s))) ≡ open_right p
open_made p k a s w e f g = rw (w, e, f, g, entries-low p.table.entries)

pub free-made : (q : Place) (k a : Bool) → q.state ≡ 0 → k ≡ same_key q.key no_key → a ≡ low (top_entry q.state)
    q.table.entries
    → (k && a) ≡ lawful_place q
unfolding lawful_place
free-made q k a z e f = rw (e, f, table-low q.state q.table.entries, z)

pub used-made : (q : Place) (k a : Bool) → is_used q.state ≡ true → k ≡ lawful_key q.key
    → a ≡ low (top_entry q.state) q.table.entries
    → (leb q.state 2 && (k && a)) ≡ lawful_place q
unfolding lawful_place
used-made q k a u e f = rw (e, f, table-low q.state q.table.entries, u)

-- n is the row's bytes; its padding stands in its last byte
pub stray-made : (width n : ℕ) (row : List ℕ) (a b : Bool) → n ≡ row_bytes width → 1 ≤ width
    → a ≡ row_padded width (take n row)
    → b ≡ low 0 (take (length row - n) (drop n row)) → (a && b) ≡ no_stray width row
unfolding no_stray row_padded
stray-made width n row a b e h p q =
    ap₂ (λ (x y : Bool). x && y)
    (p ∙ ap (λ (x : ℕ). eqb (x % 2 ^ (8 * row_bytes width - width)) 0) (get_or-take n row (row_bytes width - 1) 0
    (omega arith)))
    (q ∙ ap (λ (xs : List ℕ). low 0 xs) (take_all (length row - n) (drop n row) (omega (arith, length-drop n row)))
    ∙ zero-low (drop n row) ∙ ap (λ (m : ℕ). is_zero (drop m row)) e)

-- ---- three tests at once
regroup : (a b c d e f : Bool) → ((a && (b && c)) && (d && (e && f))) ≡ ((a && d) && ((b && e) && (c && f)))
regroup false b c d e f = refl
regroup true b c false e f = ends (b && c)
  where
    ends : (x : Bool) → (x && false) ≡ false
    ends true = refl
    ends false = refl
regroup true false c true e f = refl
regroup true true false true e f = last e
  where
    last : (x : Bool) → false ≡ (x && false)
    last true = refl
    last false = refl
regroup true true true true e f = refl

each_all : {A : Type 0} (f : A → Bool) (same : A → A → Bool) (has : A → Bool) (xs : List A)
    → each (λ x later. f x && (not (any (same x) later) && has x)) xs ≡ (all f xs && (apart same xs && all has xs))
unfolding each all apart
each_all f same has [] = refl
each_all f same has (x ∷ xs) =
    ap (λ (r : Bool). (f x && (not (any (same x) xs) && has x)) && r) (each_all f same has xs)
    ∙ regroup (f x) (not (any (same x) xs)) (has x) (all f xs) (apart same xs) (all has xs)

any_none : {A : Type 0} (test : A → Bool) (xs : List A) → any (λ x. false && test x) xs ≡ false
unfolding any
any_none test [] = refl
any_none test (x ∷ xs) = any_none test xs

-- what does not depend on the element comes out of any
any-and : {A : Type 0} (b : Bool) (test : A → Bool) (xs : List A) → any (λ x. b && test x) xs ≡ (b && any test xs)
any-and true test xs = refl
any-and false test xs = any_none test xs

-- ---- the lines tell whether a page, and a place, is known
page-known : (places : List Place) (p : Page) (later : List Page)
    → page_known (map place_line_of places) (page_line_of p) (map page_line_of later) ≡ (not (any (same_pages p) later)
    && page_has_place places p)
page-known places p later =
    ap₂ (λ (a b : Bool). eqb p.state 0 || (not a && b))
    (sym (any-map page_line_of (page_sought (Used p.key)) later)) (sym (any-map place_line_of
    (place_sought (Used p.key)) places))
    ∙ go (eqb p.state 0) (any (is_page_of p.key) later) (any (is_place_of p.key) places)
    ∙ ap (λ (a : Bool). not a && page_has_place places p) (sym (any-and (is_used p.state) (is_page_of p.key) later))
  where
    go : (u a b : Bool) → (u || (not a && b)) ≡ (not (not u && a) && (not (not u) || b))
    go true a b = refl
    go false a b = refl

place-known : (pages : List Page) (q : Place) (later : List Place)
    → place_known (map page_line_of pages) (place_line_of q) (map place_line_of later) ≡ (not (any (same_places q) later)
    && place_has_page pages q)
place-known pages q later =
    ap₂ (λ (a b : Bool). (eqb q.state 0 || not a) && (not (eqb q.state 1) || b))
    (sym (any-map place_line_of (place_sought (Used q.key)) later))
    (sym (any-map page_line_of (page_sought (Used q.key)) pages))
    ∙ ap (λ (a : Bool). a && place_has_page pages q) (go (eqb q.state 0) (any (is_place_of q.key) later))
    ∙ ap (λ (a : Bool). not a && place_has_page pages q) (sym (any-and (is_used q.state) (is_place_of q.key) later))
  where
    go : (u a : Bool) → (u || not a) ≡ not (not u && a)
    go true a = refl
    go false a = refl

-- a desk is lawful where each page and each place is right
pub lawful-each : (d : Desk)
    → lawful d ≡ (each (page_right (map place_line_of d.places)) d.pages
    && each (place_right (map page_line_of d.pages)) d.places)
unfolding lawful
lawful-each d =
    sym (regroup' (all lawful_page d.pages) (all lawful_place d.places) (apart same_pages d.pages)
    (apart same_places d.places)
    (all (page_has_place d.places) d.pages) (all (place_has_page d.pages) d.places))
    ∙ ap₂ (λ (a b : Bool). a && b)
    (sym (each_all lawful_page same_pages (page_has_place d.places) d.pages)
    ∙ ap (λ (right : Page → List Page → Bool). each right d.pages) (λ i p later. lawful_page p
    && sym (page-known d.places p later) i))
    (sym (each_all lawful_place same_places (place_has_page d.pages) d.places)
    ∙ ap (λ (right : Place → List Place → Bool). each right d.places) (λ i q later. lawful_place q
    && sym (place-known d.pages q later) i))
  where
    regroup' : (p q a b c d : Bool) → ((p && (a && c)) && (q && (b && d))) ≡ ((p && q) && ((a && b) && (c && d)))
    regroup' p q a b c d = regroup p a c q b d

-- ---- one of them, from the parts: its line, and what stands beside it
map-drop : {A C : Type 0} (g : C → A) (n : ℕ) (cs : List C) → map g (drop n cs) ≡ drop n (map g cs)
map-drop g zero cs = refl
map-drop g (suc n) [] = refl
map-drop g (suc n) (c ∷ cs) = map-drop g n cs

pub page-right : (places : List PlaceLine) (ls : List PageLine) (ts rs : List (List ℕ)) (i : ℕ) → length ls ≡ length ts
    → length ls ≡ length rs
    → page_right places (get_or (pages_of ls ts rs) i no_page) (drop (i + 1) (pages_of ls ts rs))
    ≡ (lawful_page (as_page (get_or ls i no_page_line) (get_or ts i []) (get_or rs i [])) && page_known places
    (get_or ls i no_page_line) (drop (i + 1) ls))
page-right places ls ts rs i e f =
    ap₂ (λ (p : Page) (later : List PageLine). lawful_page p && page_known places (page_line_of p) later)
    (get-pages ls ts rs e f i)
    (map-drop page_line_of (i + 1) (pages_of ls ts rs) ∙ ap (drop (i + 1)) (lines-off ls ts rs e f))

pub place-right : (pages : List PageLine) (ls : List PlaceLine) (ts : List (List ℕ)) (i : ℕ) → length ls ≡ length ts
    → place_right pages (get_or (places_of ls ts) i no_place) (drop (i + 1) (places_of ls ts))
    ≡ (lawful_place (as_place (get_or ls i no_place_line) (get_or ts i [])) && place_known pages (get_or ls i no_place_line)
    (drop (i + 1) ls))
place-right pages ls ts i e =
    ap₂ (λ (q : Place) (later : List PlaceLine). lawful_place q && place_known pages (place_line_of q) later)
    (get-places ls ts e i)
    (map-drop place_line_of (i + 1) (places_of ls ts) ∙ ap (drop (i + 1)) (place-lines-off ls ts e))

-- both tests of one, as they were made
pub both-made : {a b x y : Bool} → a ≡ x → b ≡ y → (a && b) ≡ (x && y)
both-made e f = ap₂ (λ (s t : Bool). s && t) e f
