-- One key's page and place changed: the rows of the desk, seen as slots, and the room that a change wants. Assumes
-- nothing.
use mathlib.Core.Path.{◌≡◌, refl, sym, ap, ◌∙◌}
use mathlib.Core.Bool.{true, false, not, ◌&&◌}
use mathlib.Core.List.{List, map}
use mathlib.Core.Option.{Option, some, none}
use Rattle.ground.specs.Options.{given}
use Rattle.ground.proofs.Options.{given-mapped}
use Rattle.turns.proofs.Office.{Cell}
use Rattle.turns.proofs.Slots.{Named, named, find, update}
use Rattle.turns.proofs.SlotRows.{at_first, has_name, is_free, update_same, update-free, update-new, update-take}
use Rattle.turns.proofs.Shelves.{place_of, slot_store, no_slot, no_class_place}
use Rattle.estimate.specs.declared.Table.{Table}
use Rattle.desk.specs.declared.Key.{Key}
use Rattle.desk.specs.Desk.{Page, Place, Desk}
use Rattle.desk.specs.Places.{unused_page, free_place, is_page_of, is_place_of, is_table_of, is_free_page, is_free_place}
use Rattle.desk.specs.Places.{place_found, table_found, free_page_found, free_place_found, is_found}
use Rattle.kept.proofs.Lists.{pick, found-given}
use Rattle.ground.proofs.Bools.{no_way}
use Rattle.kept.proofs.View.{K, key_laws, learned_in, view_page, view_place, shelves, place_read, pages-first, places-first}
use Rattle.kept.proofs.View.{pages-free, places-free, table-first}
use Rattle.kept.proofs.Sound.{Sound}
use Rattle.kept.proofs.Cells.{cell_of, table-found, page-free-found, place-free-found}

module _ (d : Desk) (s : Sound d) (k : Key) where
  abbrev Pages : List (Option (Named K Page))
  Pages = map view_page d.pages

  abbrev pub Places : List (Option (Named K (Option Table)))
  Places = map view_place d.places

  abbrev x : Cell Table Page
  x = cell_of d k

  fits-k : find K (Option Table) k Places ≡ place_of x.learned x.page
  unfolding shelves
  fits-k = s.fitting.fits k

  -- the page row: k's page gone, changed, new, or as it was
  pub page-gone : given x.page ≡ true → map view_page (at_first (is_page_of k) unused_page d.pages) ≡ update K Page
      k none Pages
  unfolding shelves unused_page
  page-gone g = pages-first k unused_page d.pages ∙ sym (update-free K Page k Pages g)

  pub page-changed : (p : Page) → given x.page ≡ true → view_page p ≡ named K Page k p
      → map view_page (at_first (is_page_of k) p d.pages) ≡ update K Page k (some p) Pages
  unfolding shelves
  page-changed p g e = pages-first k p d.pages ∙ ap (λ (o : Option (Named K Page)). at_first (has_name K Page k) o
      Pages) e ∙ sym (update-new K Page k p Pages g)

  pub page-taken : (p : Page) → given x.page ≡ false → view_page p ≡ named K Page k p
      → map view_page (at_first is_free_page p d.pages) ≡ update K Page k (some p) Pages
  unfolding shelves
  page-taken p g e = pages-free p d.pages ∙ ap (λ (o : Option (Named K Page)). at_first (is_free K Page) o Pages) e
      ∙ sym (update-take K Page k p Pages g)

  pub page-kept : (o : Option Page) → x.page ≡ o → map view_page d.pages ≡ update K Page k o Pages
  unfolding shelves
  page-kept o e = sym (update_same K Page key_laws k o Pages e)

  -- the row of places
  pub place-freed : given (place_of x.learned x.page) ≡ true
      → map view_place (at_first (is_place_of k) free_place d.places) ≡ update K (Option Table) k none Places
  unfolding free_place
  place-freed g =
      places-first k free_place d.places ∙ sym (update-free K (Option Table) k Places (ap given fits-k ∙ g))

  pub place-changed : (q : Place) (t : Option Table) → given (place_of x.learned x.page) ≡ true
      → view_place q ≡ named K (Option Table) k t → map view_place (at_first (is_place_of k) q d.places) ≡ update K
      (Option Table) k (some t) Places
  place-changed q t g e =
      places-first k q d.places ∙ ap (λ (o : Option (Named K (Option Table))). at_first (has_name K (Option Table) k)
      o Places) e ∙ sym (update-new K (Option Table) k t Places (ap given fits-k ∙ g))

  pub place-taken : (q : Place) (t : Option Table) → given (place_of x.learned x.page) ≡ false
      → view_place q ≡ named K (Option Table) k t → map view_place (at_first is_free_place q d.places) ≡ update K
      (Option Table) k (some t) Places
  place-taken q t g e =
      places-free q d.places ∙ ap (λ (o : Option (Named K (Option Table))). at_first (is_free K (Option Table)) o
      Places) e ∙ sym (update-take K (Option Table) k t Places (ap given fits-k ∙ g))

  pub place_kept : (o : Option (Option Table)) → place_of x.learned x.page ≡ o → map view_place d.places
      ≡ update K (Option Table) k o Places
  place_kept o e = sym (update_same K (Option Table) key_laws k o Places (fits-k ∙ e))

  pub table-freed : is_found (table_found d k) ≡ true → map view_place (at_first (is_table_of k) free_place d.places)
      ≡ update K (Option Table) k none Places
  unfolding shelves
  table-freed h =
      ap (map view_place) (table-first k d.places s.fitting.lone-places free_place
      (sym (found-given (is_table_of k) d.places 0) ∙ h))
      ∙ place-freed (learned-placed x.learned x.page (sym (table-found d s k) ∙ h))
    where
      learned-placed : (t : Option Table) (p : Option Page) → given t ≡ true → given (place_of t p) ≡ true
      learned-placed none p g = no_way (sym g)
      learned-placed (some t) p g = refl

  -- ---- both rows, and the room
  pub store_by : (d' : Desk) (y : Cell Table Page) → map view_page d'.pages ≡ update K Page k y.page Pages
      → map view_place d'.places ≡ update K (Option Table) k (place_of y.learned y.page) Places
      → shelves d' ≡ slot_store K Table Page (shelves d) k y
  unfolding shelves slot_store
  store_by d' y p q = λ i. record { page_slots = p i; class_places = q i }

  find-given : given (find K (Option Table) k (shelves d).class_places) ≡ given (place_of x.learned x.page)
  unfolding shelves
  find-given = ap given fits-k

  -- the class's place is found where it has a table or an open page
  pub place-given : is_found (place_found d k) ≡ given (place_of x.learned x.page)
  place-given = found-given (is_place_of k) d.places 0 ∙ sym (given-mapped learned_in (pick (is_place_of k) d.places))
      ∙ ap given (sym (place_read k d.places) ∙ fits-k)

  -- what room a cell wants
  pub slot-room : (y : Cell Table Page) → no_slot K Table Page (shelves d) k y
      ≡ ((not (given x.page) && given y.page) && not (is_found (free_page_found d)))
  unfolding no_slot
  slot-room y = rw (page-free-found d s k)

  pub place-room : (y : Cell Table Page) → no_class_place K Table Page (shelves d) k y
      ≡ ((not (given (place_of x.learned x.page)) && given (place_of y.learned y.page))
      && not (is_found (free_place_found d)))
  unfolding no_class_place
  place-room y = rw (find-given, place-free-found d s k)

  pub paged : (p : Option Page) (t : Option Table) → given p ≡ true → given (place_of t p) ≡ true
  paged none t g = no_way (sym g)
  paged (some p) none g = refl
  paged (some p) (some t) g = refl

  pub learned-same : (t : Option Table) (p q : Option Page) → given t ≡ true → place_of t p ≡ place_of t q
  learned-same none p q g = no_way (sym g)
  learned-same (some t) p q g = refl

  pub open-same : (t : Option Table) (p q : Option Page) → given p ≡ true → given q ≡ true → place_of t p ≡ place_of t q
  open-same (some t) p q g h = refl
  open-same none none q g h = no_way (sym g)
  open-same none (some p) none g h = no_way (sym h)
  open-same none (some p) (some q) g h = refl
