-- What stands under a key, and what the desk finds there. Assumes nothing.
use mathlib.Core.Path.{◌≡◌, refl, sym, ap, ◌∙◌}
use mathlib.Core.Bool.{true}
use mathlib.Core.Option.{Option, some, none}
use Rattle.ground.proofs.Bools.{no_way, both}
use Rattle.ground.specs.Options.{given}
use Rattle.ground.proofs.Options.{mapped}
use Rattle.turns.proofs.Office.{Cell}
use Rattle.turns.proofs.Slots.{free}
use Rattle.turns.proofs.Shelves.{cell_at}
use Rattle.estimate.specs.declared.Table.{Table}
use Rattle.desk.specs.declared.Key.{Key}
use Rattle.desk.specs.Desk.{Page, Place, Desk}
use Rattle.desk.specs.Places.{Found}
use Rattle.std.specs.Prelude.{Some, None}
use Rattle.desk.specs.Places.{is_used, is_learned, no_page, no_place, same_key, is_page_of, is_table_of, is_free_page, is_free_place}
use Rattle.desk.specs.Places.{page_found, table_found, free_page_found, free_place_found, is_found}
use Rattle.desk.specs.Lawful.{lawful_page, lawful_place}
use Rattle.desk.proofs.Standing.{found-page, found-table}
use Rattle.desk.specs.Standing.{page_by, table_by, open_page, learned_table}
use Rattle.kept.proofs.Lists.{pick, pick-passes, pick_all, found-given, value_at, value_found}
use Rattle.kept.proofs.View.{K, shelves, page-read, page-free, place-free, table-read}
use Rattle.kept.proofs.Sound.{Sound}

-- what stands under a key: the learned table or none, the open page or none
abbrev pub cell_of : Desk → Key → Cell Table Page
cell_of d k = cell_at K Table Page (shelves d) k

module _ (d : Desk) (s : Sound d) (k : Key) where
  page-pick : open_page d k ≡ pick (is_page_of k) d.pages
  page-pick = go (page_found d k) ∙ value_found (is_page_of k) no_page d.pages
    where
      go : (f : Found) → page_by d f ≡ value_at f d.pages no_page
      go (Some i) = refl
      go None = refl

  table-pick : learned_table d k ≡ mapped (λ (q : Place). q.table) (pick (is_table_of k) d.places)
  table-pick = go (table_found d k) ∙ ap (mapped (λ (q : Place). q.table)) (value_found (is_table_of k) no_place
      d.places)
    where
      go : (f : Found) → table_by d f ≡ mapped (λ (q : Place). q.table) (value_at f d.places no_place)
      go (Some i) = refl
      go None = refl

  pub page-is : open_page d k ≡ (cell_of d k).page
  unfolding shelves
  page-is = page-pick ∙ sym (page-read k d.pages)

  pub learned-is : learned_table d k ≡ (cell_of d k).learned
  unfolding shelves
  learned-is = table-pick ∙ sym (table-read k d.places s.fitting.lone-places)

  pub page-found : is_found (page_found d k) ≡ given (cell_of d k).page
  page-found = sym (found-page d (page_found d k)) ∙ ap given page-is

  pub table-found : is_found (table_found d k) ≡ given (cell_of d k).learned
  table-found = sym (found-table d (table_found d k)) ∙ ap given learned-is

  pub page-free-found : is_found (free_page_found d) ≡ free K Page (shelves d).page_slots
  unfolding shelves
  page-free-found = found-given is_free_page d.pages 0 ∙ sym (page-free d.pages)

  pub place-free-found : is_found (free_place_found d) ≡ free K (Option Table) (shelves d).class_places
  unfolding shelves
  place-free-found = found-given is_free_place d.places 0 ∙ sym (place-free d.places)

  -- ---- the open page and the learned table are lawful
  pub page-own : (p : Page) → open_page d k ≡ some p → (is_used p.state ≡ true) × (same_key p.key k ≡ true)
      × (lawful_page p ≡ true)
  page-own p e =
      let f : pick (is_page_of k) d.pages ≡ some p = sym page-pick ∙ e in
      let u = both (is_used p.state) (same_key p.key k) (pick-passes (is_page_of k) d.pages p f) in
      (u.0, u.1, pick_all lawful_page (is_page_of k) d.pages p s.pages-lawful f)

  pub place-own : (t : Table) → learned_table d k ≡ some t → (q : Place) × (q.table ≡ t)
      × (is_learned q.state ≡ true) × (lawful_place q ≡ true)
  place-own t h = go (pick (is_table_of k) d.places) refl (sym table-pick ∙ h)
    where
      go : (o : Option Place) → pick (is_table_of k) d.places ≡ o → mapped (λ (q : Place). q.table) o ≡ some t
          → (q : Place) × (q.table ≡ t) × (is_learned q.state ≡ true) × (lawful_place q ≡ true)
      go none f g = no_way (ap given (sym g))
      go (some q) f g =
          let e : q.table ≡ t = cc in (
            q,
            e,
            (both (is_learned q.state) (same_key q.key k) (pick-passes (is_table_of k) d.places q f)).0,
            pick_all lawful_place
                (is_table_of k) d.places q s.places-lawful f,
          )
