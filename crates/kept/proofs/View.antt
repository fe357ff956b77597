-- The desk's pages and places, seen as slots under keys. Assumes nothing.
use mathlib.Core.Path.{◌≡◌, refl, sym, ap, ◌∙◌, subst, fun_ext}
use mathlib.Core.Bool.{Bool, true, false, cond, not, ◌&&◌}
use mathlib.Core.List.{List, [], ◌∷◌, map}
use mathlib.Core.Option.{Option, some, none}
use Prim.Native.Nat.{ℕ}
use lib.Dec.{eqb}
use borrow.Author.Tests.{eqb-true}
use Rattle.ground.specs.Options.{given}
use Rattle.ground.proofs.Options.{mapped}
use Rattle.turns.specs.Service.{Keys, KeyLaws}
use Rattle.turns.proofs.Slots.{Named, named, find, free, Lone}
use Rattle.turns.proofs.SlotRows.{at_first, map_first, has_name, is_free}
use Rattle.turns.proofs.Shelves.{join, Shelves}
use Rattle.estimate.specs.declared.Table.{Table}
use Rattle.desk.specs.declared.Key.{Key}
use Rattle.desk.specs.Desk.{Page, Place, Desk}
use Rattle.desk.specs.Places.{is_used, is_learned, same_key, is_page_of, is_place_of, is_table_of, is_free_page, is_free_place}
use Rattle.desk.proofs.OpenPages.{key-self, key-only}
use Rattle.kept.proofs.Lists.{pick}
use Rattle.ground.proofs.Bools.{no_way}

-- ---- keys: the school and the class
abbrev pub K : Keys
K = record { Key = Key; same = same_key }

-- a key is the same as itself, and the same as no other
abbrev pub key_laws : KeyLaws K.Key K.same
key_laws = record { same_self = key-self; same_only = key-only }

-- ---- a page is a slot with the page itself; a place holds its learned table, or is only reserved
abbrev pub view_page_by : Bool → Page → Option (Named K Page)
view_page_by true p = named K Page p.key p
view_page_by false p = none

abbrev pub view_page : Page → Option (Named K Page)
view_page p = view_page_by (is_used p.state) p

abbrev pub learned_by : Bool → Place → Option Table
learned_by true q = some q.table
learned_by false q = none

abbrev pub learned_in : Place → Option Table
learned_in q = learned_by (is_learned q.state) q

abbrev pub view_place_by : Bool → Place → Option (Named K (Option Table))
view_place_by true q = named K (Option Table) q.key (learned_in q)
view_place_by false q = none

abbrev pub view_place : Place → Option (Named K (Option Table))
view_place q = view_place_by (is_used q.state) q

abbrev pub Shelf : Type 0
Shelf = Shelves K Table Page

unfoldable pub shelves : Desk → Shelf
shelves d = record { page_slots = map view_page d.pages; class_places = map view_place d.places }

-- ---- the desk's tests are those of the slots
abbrev name_page : Key → Page → Bool
name_page k p = has_name K Page k (view_page p)

abbrev name_place : Key → Place → Bool
name_place k q = has_name K (Option Table) k (view_place q)

page-test : (k : Key) (p : Page) → name_page k p ≡ is_page_of k p
page-test k p = go (is_used p.state)
  where
    go : (b : Bool) → has_name K Page k (view_page_by b p) ≡ (b && same_key p.key k)
    go true = refl
    go false = refl

place-test : (k : Key) (q : Place) → name_place k q ≡ is_place_of k q
place-test k q = go (is_used q.state)
  where
    go : (b : Bool) → has_name K (Option Table) k (view_place_by b q) ≡ (b && same_key q.key k)
    go true = refl
    go false = refl

free-page-test : (p : Page) → is_free K Page (view_page p) ≡ is_free_page p
free-page-test p = go (eqb p.state 0)
  where
    go : (b : Bool) → is_free K Page (view_page_by (not b) p) ≡ b
    go true = refl
    go false = refl

free-place-test : (q : Place) → is_free K (Option Table) (view_place q) ≡ is_free_place q
free-place-test q = go (eqb q.state 0)
  where
    go : (b : Bool) → is_free K (Option Table) (view_place_by (not b) q) ≡ b
    go true = refl
    go false = refl

-- ---- what is found under a key
pub page-read : (k : Key) (s : List Page) → find K Page k (map view_page s) ≡ pick (is_page_of k) s
unfolding find pick
page-read k [] = refl
page-read k (p ∷ s) = go (is_used p.state) (page-read k s)
  where
    go : (b : Bool) → find K Page k (map view_page s) ≡ pick (is_page_of k) s
        → find K Page k (view_page_by b p ∷ map view_page s) ≡ cond (b && same_key p.key k) (some p)
        (pick (is_page_of k) s)
    go true ih = ap (cond (same_key p.key k) (some p)) ih
    go false ih = ih

pub place_read : (k : Key) (s : List Place) → find K (Option Table) k (map view_place s) ≡ mapped learned_in
    (pick (is_place_of k) s)
unfolding find pick
place_read k [] = refl
place_read k (q ∷ s) = go (is_used q.state) (place_read k s)
  where
    inner : (b : Bool) → find K (Option Table) k (map view_place s) ≡ mapped learned_in (pick (is_place_of k) s)
        → cond b (some (learned_in q)) (find K (Option Table) k (map view_place s)) ≡ mapped learned_in
        (cond b (some q) (pick (is_place_of k) s))
    inner true ih = refl
    inner false ih = ih

    go : (b : Bool) → find K (Option Table) k (map view_place s) ≡ mapped learned_in (pick (is_place_of k) s)
        → find K (Option Table) k (view_place_by b q ∷ map view_place s)
        ≡ mapped learned_in (cond (b && same_key q.key k) (some q) (pick (is_place_of k) s))
    go true ih = inner (same_key q.key k) ih
    go false ih = ih

-- ---- a change at the first that passes, seen as slots
module _ (k : Key) where
  pub pages-first : (p : Page) (s : List Page) → map view_page (at_first (is_page_of k) p s) ≡ at_first (has_name K Page k)
      (view_page p) (map view_page s)
  pages-first p s = ap (λ (t : Page → Bool). map view_page (at_first t p s)) (sym (fun_ext (page-test k)))
      ∙ map_first view_page (has_name K Page k) p s

  pub places-first : (q : Place) (s : List Place) → map view_place (at_first (is_place_of k) q s) ≡ at_first
      (has_name K (Option Table) k) (view_place q) (map view_place s)
  places-first q s = ap (λ (t : Place → Bool). map view_place (at_first t q s)) (sym (fun_ext (place-test k)))
      ∙ map_first view_place (has_name K (Option Table) k) q s

pub pages-free : (p : Page) (s : List Page) → map view_page (at_first is_free_page p s) ≡ at_first (is_free K Page)
    (view_page p) (map view_page s)
pages-free p s = ap (λ (t : Page → Bool). map view_page (at_first t p s)) (sym (fun_ext free-page-test))
    ∙ map_first view_page (is_free K Page) p s

pub places-free : (q : Place) (s : List Place) → map view_place (at_first is_free_place q s) ≡ at_first
    (is_free K (Option Table)) (view_place q) (map view_place s)
places-free q s = ap (λ (t : Place → Bool). map view_place (at_first t q s)) (sym (fun_ext free-place-test))
    ∙ map_first view_place (is_free K (Option Table)) q s

pub page-free : (s : List Page) → free K Page (map view_page s) ≡ given (pick is_free_page s)
unfolding free pick
page-free [] = refl
page-free (p ∷ s) = go (eqb p.state 0) (page-free s)
  where
    go : (b : Bool) → free K Page (map view_page s) ≡ given (pick is_free_page s)
        → free K Page (view_page_by (not b) p ∷ map view_page s) ≡ given (cond b (some p) (pick is_free_page s))
    go true ih = refl
    go false ih = ih

pub place-free : (s : List Place) → free K (Option Table) (map view_place s) ≡ given (pick is_free_place s)
unfolding free pick
place-free [] = refl
place-free (q ∷ s) = go (eqb q.state 0) (place-free s)
  where
    go : (b : Bool) → free K (Option Table) (map view_place s) ≡ given (pick is_free_place s)
        → free K (Option Table) (view_place_by (not b) q ∷ map view_place s) ≡ given (cond b (some q) (pick is_free_place s))
    go true ih = refl
    go false ih = ih

-- ---- where keys are different, the place of a key that has a learned table is the one that is found by its table
pub learned-used : (n : ℕ) → is_learned n ≡ true → is_used n ≡ true
learned-used n h = rw (eqb-true n 2 h)

no-place-no-table : (k : Key) (s : List Place) → pick (is_place_of k) s ≡ none → pick (is_table_of k) s ≡ none
unfolding pick
no-place-no-table k [] h = refl
no-place-no-table k (q ∷ s) h = go (is_used q.state) (is_learned q.state) (same_key q.key k)
    (learned-used q.state) h (no-place-no-table k s)
  where
    go : (u l e : Bool) → (l ≡ true → u ≡ true) → cond (u && e) (some q) (pick (is_place_of k) s) ≡ none
        → (pick (is_place_of k) s ≡ none → pick (is_table_of k) s ≡ none)
        → cond (l && e) (some q) (pick (is_table_of k) s) ≡ none
    go true true true i h ih = no_way (ap given h)
    go true false true i h ih = no_way (ap given h)
    go false true e i h ih = no_way (sym (i refl))
    go false false e i h ih = ih h
    go true true false i h ih = ih h
    go true false false i h ih = ih h

nothing-mapped : {A B : Type 0} (f : A → B) (o : Option A) → mapped f o ≡ none → o ≡ none
nothing-mapped f none e = refl
nothing-mapped f (some a) e = no_way (ap given e)

record TableFirst (k : Key) (s : List Place) : Type 0 where
  read : join (find K (Option Table) k (map view_place s)) ≡ mapped (λ (q : Place). q.table) (pick (is_table_of k) s)
  first : (a : Place) → given (pick (is_table_of k) s) ≡ true → at_first (is_table_of k) a s ≡ at_first (is_place_of k) a s

-- one place more: used or not, learned or not
abbrev TableStep : Key → Place → List Place → Bool → Bool → Type 0
TableStep k q s u l =
    (join (find K (Option Table) k (view_place_by u q ∷ map view_place s))
    ≡ mapped (λ (q : Place). q.table) (cond (l && same_key q.key k) (some q) (pick (is_table_of k) s)))
    × ((a : Place) → given (cond (l && same_key q.key k) (some q) (pick (is_table_of k) s)) ≡ true
    → cond (l && same_key q.key k) (a ∷ s) (q ∷ at_first (is_table_of k) a s) ≡ cond (u && same_key q.key k) (a ∷ s)
    (q ∷ at_first (is_place_of k) a s))

table-both : (k : Key) (s : List Place) → Lone K (Option Table) (map view_place s) → TableFirst k s
unfolding find pick at_first Lone
table-both k [] h = record { read = refl; first = λ a g. refl }
table-both k (q ∷ s) h =
    let r : TableStep k q s (is_used q.state) (is_learned q.state) = go (is_used q.state) refl h
    (λ l. table-both k s l) in
    record { read = r.0; first = r.1 }
  where
    same_key_lem : (l e : Bool) → same_key q.key k ≡ e → find K (Option Table) q.key (map view_place s) ≡ none
        → TableFirst k s
        → (join (cond e (some (learned_by l q)) (find K (Option Table) k (map view_place s))) ≡ mapped
        (λ (q : Place). q.table) (cond (l && e) (some q) (pick (is_table_of k) s)))
        × ((a : Place) → given (cond (l && e) (some q) (pick (is_table_of k) s)) ≡ true
        → cond (l && e) (a ∷ s) (q ∷ at_first (is_table_of k) a s) ≡ cond e (a ∷ s) (q ∷ at_first (is_place_of k) a s))
    same_key_lem true true j n r = (refl, (λ a g. refl))
    same_key_lem false true j n r =
        let m : pick (is_table_of k) s ≡ none
        = no-place-no-table k s (nothing-mapped learned_in (pick (is_place_of k) s)
        (sym (place_read k s) ∙ subst (λ (j : Key). find K (Option Table) j (map view_place s) ≡ none)
        (key-only q.key k j) n)) in
        (rw m, (λ a g. no_way (sym g ∙ ap given m)))
    same_key_lem true false j n r = (r.read, (λ a g. ap (λ (t : List Place). q ∷ t) (r.first a g)))
    same_key_lem false false j n r = (r.read, (λ a g. ap (λ (t : List Place). q ∷ t) (r.first a g)))

    unused : (l : Bool) → is_learned q.state ≡ l → is_used q.state ≡ false → TableFirst k s
        → TableStep k q s false l
    unused true i f r = no_way (sym (learned-used q.state i) ∙ f)
    unused false i f r = (r.read, (λ a g. ap (λ (t : List Place). q ∷ t) (r.first a g)))

    go : (u : Bool) → is_used q.state ≡ u → Lone K (Option Table) (view_place_by u q ∷ map view_place s)
        → (Lone K (Option Table) (map view_place s) → TableFirst k s) → TableStep k q s u (is_learned q.state)
    go true f h ih = same_key_lem (is_learned q.state) (same_key q.key k) refl h.0 (ih h.1)
    go false f h ih = unused (is_learned q.state) refl f (ih h)

pub table-read : (k : Key) (s : List Place) → Lone K (Option Table) (map view_place s)
    → join (find K (Option Table) k (map view_place s)) ≡ mapped (λ (q : Place). q.table) (pick (is_table_of k) s)
table-read k s h = (table-both k s h).read

pub table-first : (k : Key) (s : List Place) → Lone K (Option Table) (map view_place s) → (a : Place)
    → given (pick (is_table_of k) s) ≡ true → at_first (is_table_of k) a s ≡ at_first (is_place_of k) a s
table-first k s h a g = (table-both k s h).first a g
