-- What a change does to the desk: one key's cell is stored, the lowest free slot or place taken. Assumes nothing.
use mathlib.Core.Path.{◌≡◌, refl, sym, ap, ◌∙◌, subst}
use mathlib.Core.Bool.{Bool, true, false, cond, ◌||◌}
use mathlib.Core.List.{List, map}
use mathlib.Core.Option.{Option, some, none}
use Rattle.ground.proofs.Bools.{no_way}
use Rattle.ground.specs.Options.{given}
use Rattle.turns.proofs.Office.{Cell, cell}
use Rattle.turns.proofs.Slots.{named, update}
use Rattle.turns.proofs.Shelves.{place_of, cell_at, slot_store, no_slot, no_class_place, Fitting, other-cell, fitting-store}
use Rattle.estimate.specs.declared.Table.{Table}
use Rattle.band.specs.Band.{white}
use Rattle.desk.specs.declared.Key.{Key}
use Rattle.desk.specs.Desk.{Page, Place, Desk}
use Rattle.desk.specs.Places.{zero_table, unused_page, free_place, same_key, is_page_of, is_place_of, is_table_of, is_free_page}
use Rattle.desk.specs.Places.{is_free_place}
use Rattle.desk.specs.Places.{page_found, place_found, table_found, free_page_found, free_place_found, is_found}
use Rattle.desk.specs.Lawful.{all, lawful_key, low_indexes, lawful_page, lawful_place}
use Rattle.desk.specs.Effects.{Change, stays, gone, becomes, afterwards}
use Rattle.desk.specs.Changes.{learned_place, reserved_place, set_at, or_free, pages_after, places_after, changed}
use Rattle.kept.proofs.Lists.{set_found, all_first}
use Rattle.kept.proofs.View.{K, key_laws, view_page, view_place, Shelf, shelves}
use Rattle.kept.proofs.Sound.{Sound}
use Rattle.kept.proofs.Cells.{cell_of, page-found, table-found}
use Rattle.kept.proofs.ChangesKept.{Places, page-gone, page-changed, page-taken, page-kept, place-freed}
use Rattle.kept.proofs.ChangesKept.{place-changed, place-taken, place_kept, table-freed, store_by, place-given}
use Rattle.kept.proofs.ChangesKept.{paged, learned-same, open-same}

-- the cell y is stored under k
pub record Stored (d d' : Desk) (k : Key) (y : Cell Table Page) : Type 0 where
  pub shelved : shelves d' ≡ slot_store K Table Page (shelves d) k y
  pub page-room : no_slot K Table Page (shelves d) k y ≡ false
  pub place-room : no_class_place K Table Page (shelves d) k y ≡ false
  pub pages-lawful : all lawful_page d'.pages ≡ true
  pub places-lawful : all lawful_place d'.places ≡ true

pub stored-sound : (d d' : Desk) (k : Key) (y : Cell Table Page) → Sound d → Stored d d' k y → Sound d'
stored-sound d d' k y s c =
    record {
      pages-lawful = c.pages-lawful;
      places-lawful = c.places-lawful;
      fitting = subst (λ (z : Shelf). Fitting K Table Page z) (sym c.shelved)
          (fitting-store K Table Page key_laws (shelves d) s.fitting k y
          c.page-room c.place-room);
    }

-- other keys see no change
pub stored-others : (d d' : Desk) (k : Key) (y : Cell Table Page) → Sound d → Stored d d' k y → (j : Key)
    → same_key k j ≡ false → cell_of d' j
    ≡ cell_of d j
stored-others d d' k y s c j n =
    ap (λ (z : Shelf). cell_at K Table Page z j) c.shelved ∙ other-cell K Table Page key_laws (shelves d) s.fitting k y
    c.page-room c.place-room j n

-- ---- a change, and the cell that it leaves
abbrev pub cell_after : Cell Table Page → Change Page → Change Table → Cell Table Page
cell_after x p t = cell (afterwards x.learned t) (afterwards x.page p)

-- The changes that calls make. A page goes only where one is open; a table is forgotten, or put in without a page's
-- closing, only where none is.
abbrev pub Clean : Cell Table Page → Change Page → Change Table → Type 0
Clean x stays stays = Unit {0}
Clean x stays gone = (x.page ≡ none) × (given x.learned ≡ true)
Clean x stays (becomes t) = x.page ≡ none
Clean x gone stays = given x.page ≡ true
Clean x gone gone = ⊥
Clean x gone (becomes t) = given x.page ≡ true
Clean x (becomes p) stays = Unit {0}
Clean x (becomes p) gone = ⊥
Clean x (becomes p) (becomes t) = ⊥

-- a new page is lawful, and k's; a new table is lawful
abbrev pub FairPage : Key → Change Page → Type 0
FairPage k stays = Unit {0}
FairPage k gone = Unit {0}
FairPage k (becomes p) = (view_page p ≡ named K Page k p) × (lawful_page p ≡ true)

abbrev pub FairTable : Change Table → Type 0
FairTable stays = Unit {0}
FairTable gone = Unit {0}
FairTable (becomes t) = low_indexes t.entries ≡ true

-- unused room is lawful, and so are a learned and a reserved place
unused-lawful : lawful_page unused_page ≡ true
unfolding lawful_page unused_page zero_table white all
unused-lawful = refl

free-lawful : lawful_place free_place ≡ true
unfolding lawful_place free_place zero_table all
free-lawful = refl

learned-lawful : (k : Key) (t : Table) → lawful_key k ≡ true → low_indexes t.entries ≡ true
    → lawful_place (learned_place k t)
    ≡ true
unfolding lawful_place learned_place
learned-lawful k t h l = rw (h, l)

reserved-lawful : (k : Key) → lawful_key k ≡ true → lawful_place (reserved_place k) ≡ true
unfolding lawful_place reserved_place zero_table all
reserved-lawful k h = rw h

module _ (d : Desk) (s : Sound d) (k : Key) (known : lawful_key k ≡ true) where
  abbrev x : Cell Table Page
  x = cell_of d k

  -- ---- the pages
  pages-stored : (p : Change Page) (t : Change Table) → Clean x p t → FairPage k p
      → (map view_page (pages_after d k p) ≡ update K Page k (afterwards x.page p) (map view_page d.pages))
      × (all lawful_page (pages_after d k p)
      ≡ true)
  unfolding pages_after
  pages-stored stays t c l = (page-kept d s k x.page refl, s.pages-lawful)
  pages-stored gone t c l =
      rw (set_found (is_page_of k) unused_page d.pages) (
        page-gone d s k (going t c),
        all_first lawful_page (is_page_of k) unused_page d.pages s.pages-lawful
            unused-lawful,
      )
    where
      going : (t : Change Table) → Clean x gone t → given x.page ≡ true
      going stays c = c
      going gone c = absurd c
      going (becomes t) c = c
  pages-stored (becomes p) t c l = go (is_found (page_found d k)) refl
    where
      go : (b : Bool) → is_found (page_found d k) ≡ b
          → (map view_page (set_at (cond b (page_found d k) (free_page_found d)) p d.pages) ≡ update K Page k (some p)
          (map view_page d.pages))
          × (all lawful_page (set_at (cond b (page_found d k) (free_page_found d)) p d.pages) ≡ true)
      go true e =
          rw (set_found (is_page_of k) p d.pages) (
            page-changed d s k p (sym (page-found d s k) ∙ e) l.0,
            all_first lawful_page (is_page_of k) p d.pages
                s.pages-lawful l.1,
          )
      go false e =
          rw (set_found is_free_page p d.pages) (
            page-taken d s k p (sym (page-found d s k) ∙ e) l.0,
            all_first lawful_page is_free_page p d.pages
                s.pages-lawful l.1,
          )

  -- ---- the places
  abbrev PlacesStored : List Place → Change Page → Change Table → Type 0
  PlacesStored qs p t =
      (map view_place qs ≡ update K (Option Table) k (place_of (afterwards x.learned t) (afterwards x.page p))
      (Places d s k)) ×
      (all lawful_place qs ≡ true)

  -- a table learned: in the class's place, or in the lowest free one
  learned-stored : (p : Change Page) (t : Table) → low_indexes t.entries ≡ true
      → PlacesStored (set_at (or_free (place_found d k)
      (free_place_found d)) (learned_place k t) d.places) p (becomes t)
  unfolding learned_place
  learned-stored p t l = go (is_found (place_found d k)) refl
    where
      go : (b : Bool) → is_found (place_found d k) ≡ b → PlacesStored (set_at (cond b (place_found d k) (free_place_found d))
          (learned_place k t)
          d.places) p (becomes t)
      go true e =
          rw (set_found (is_place_of k) (learned_place k t) d.places) (
            place-changed d s k (learned_place k t) (some t) (sym (place-given d s k) ∙ e) refl,
            all_first lawful_place (is_place_of k)
                (learned_place k t) d.places s.places-lawful (learned-lawful k t known l),
          )
      go false e =
          rw (set_found is_free_place (learned_place k t) d.places) (
            place-taken d s k (learned_place k t) (some t) (sym (place-given d s k) ∙ e) refl,
            all_first lawful_place is_free_place (learned_place k t)
                d.places s.places-lawful (learned-lawful k t known l),
          )

  -- the page gone, the table as before: a place that was only reserved is free
  left-stored : given x.page ≡ true → PlacesStored (places_after d k gone stays) gone stays
  unfolding places_after
  left-stored g = go (is_found (table_found d k)) refl
    where
      freed : (t : Option Table) → given t ≡ false → place_of {P = Page} t none ≡ none
      freed none h = refl
      freed (some t) h = no_way h

      go : (b : Bool) → is_found (table_found d k) ≡ b
          → PlacesStored (cond b d.places (set_at (place_found d k) free_place d.places)) gone stays
      go true e = (
        place_kept d s k (place_of x.learned none) (learned-same d s k x.learned x.page none
            (sym (table-found d s k)
            ∙ e)),
        s.places-lawful,
      )
      go false e =
          rw (set_found (is_place_of k) free_place d.places) (
            place-freed d s k (paged d s k x.page x.learned g) ∙ ap (λ (o : Option (Option Table)). update K
                (Option Table) k o
                (Places d s k)) (sym (freed x.learned (sym (table-found d s k) ∙ e))),
            all_first lawful_place (is_place_of k) free_place d.places s.places-lawful free-lawful,
          )

  -- a page, open before or opened now: it reserves a place where its class has no table
  opened-stored : (p : Page) → PlacesStored (places_after d k (becomes p) stays) (becomes p) stays
  unfolding places_after reserved_place
  opened-stored p = go (is_found (page_found d k)) (is_found (table_found d k)) refl refl
    where
      reserved : (t : Option Table) → given t ≡ false → place_of {P = Page} t (some p) ≡ some none
      reserved none h = refl
      reserved (some t) h = no_way h

      unplaced : (t : Option Table) (o : Option Page) → given t ≡ false → given o ≡ false → given (place_of t o) ≡ false
      unplaced none none a b = refl
      unplaced none (some p) a b = b
      unplaced (some t) o a b = no_way a

      go : (a b : Bool) → is_found (page_found d k) ≡ a → is_found (table_found d k) ≡ b
          → PlacesStored (cond (a || b) d.places (set_at (free_place_found d) (reserved_place k) d.places))
          (becomes p) stays
      go true b e f = (
        place_kept d s k (place_of x.learned (some p)) (open-same d s k x.learned x.page (some p)
            (sym (page-found d s k)
            ∙ e) refl),
        s.places-lawful,
      )
      go false true e f = (
        place_kept d s k (place_of x.learned (some p)) (learned-same d s k x.learned x.page (some p) (sym
            (table-found d s k) ∙ f)),
        s.places-lawful,
      )
      go false false e f =
          rw (set_found is_free_place (reserved_place k) d.places) (
            place-taken d s k (reserved_place k) none (unplaced x.learned x.page (sym (table-found d s k) ∙ f)
                (sym (page-found d s k) ∙ e)) refl
                ∙ ap (λ (o : Option (Option Table)). update K (Option Table) k o (Places d s k))
                (sym (reserved x.learned (sym
                (table-found d s k) ∙ f))),
            all_first lawful_place is_free_place (reserved_place k) d.places s.places-lawful
                (reserved-lawful k known),
          )

  -- a table forgotten
  forgotten-stored : x.page ≡ none → given x.learned ≡ true → PlacesStored (places_after d k stays gone) stays gone
  unfolding places_after
  forgotten-stored g h =
      rw (set_found (is_table_of k) free_place d.places, g) (
        table-freed d s k (table-found d s k ∙ h),
        all_first lawful_place (is_table_of k) free_place d.places
            s.places-lawful free-lawful,
      )

  places-stored : (p : Change Page) (t : Change Table) → Clean x p t → FairTable t
      → PlacesStored (places_after d k p t) p t
  unfolding places_after
  places-stored stays stays c l = (place_kept d s k (place_of x.learned x.page) refl, s.places-lawful)
  places-stored stays gone c l = forgotten-stored c.0 c.1
  places-stored stays (becomes t) c l = learned-stored stays t l
  places-stored gone stays c l = left-stored c
  places-stored gone gone c l = absurd c
  places-stored gone (becomes t) c l = learned-stored gone t l
  places-stored (becomes p) stays c l = opened-stored p
  places-stored (becomes p) gone c l = absurd c
  places-stored (becomes p) (becomes t) c l = absurd c

  -- ---- any change of a call, where there is room for it
  pub changed-stored : (p : Change Page) (t : Change Table) → Clean x p t → FairPage k p → FairTable t
      → no_slot K Table Page (shelves d) k (cell_after x p t) ≡ false → no_class_place K Table Page (shelves d) k
      (cell_after x p t) ≡ false
      → Stored d (changed d k p t) k (cell_after x p t)
  unfolding changed
  changed-stored p t c l m f g =
      let a = pages-stored p t c l in
      let b = places-stored p t c m in
      record {
        shelved = store_by d s k (record { pages = pages_after d k p; places = places_after d k p t }) (cell_after x p t)
            a.0 b.0;
        page-room = f;
        place-room = g;
        pages-lawful = a.1;
        places-lawful = b.1;
      }
