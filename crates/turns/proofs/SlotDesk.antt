-- A desk of page slots and class places, the lowest free one taken, answers as the desk that is a map from keys to
-- cells. Assumes nothing.
use mathlib.Core.Path.{◌≡◌, refl, sym, ap, ◌∙◌, subst}
use mathlib.Core.Bool.{Bool, true, false}
use mathlib.Core.List.{List, [], ◌∷◌}
use mathlib.Core.Option.{Option}
use lib.ListN.{length}
use Rattle.ground.specs.Options.{given}
use Rattle.turns.specs.Service.{Mark, accepted, refused, crowded, Keys, keys, Entry, calls}
use Rattle.turns.proofs.Office.{Cell, Result, refuse, accept, Office, service, laws_of}
use Rattle.turns.proofs.CellDesk.{has_page, has_place, Desk, Outcome, new_desk, store, no_page, no_place, admit}
use Rattle.turns.proofs.CellDesk.{settle}
use Rattle.turns.proofs.CellDesk.{step, run, after}
use Rattle.turns.specs.Serial.{serial, Whole}
use Rattle.turns.proofs.OfficeLaws.{Laws}
use Rattle.turns.proofs.Turns.{Served, serialisation, shut}
use Rattle.turns.proofs.Base.{put-each}
use Rattle.turns.proofs.Slots.{Named, find, used, full}
use Rattle.turns.proofs.Shelves.{given-place, Shelves, cell_at, slot_store, no_slot, no_class_place, Fitting}
use Rattle.turns.proofs.Shelves.{pages-then, places_then, own-cell, other-cell, fitting-store, frees}
use Rattle.turns.proofs.Shelves.{frees-length, frees-find, frees-lone, frees-used}

module _ (O : Office) where
  open O use {Key, Table, Page, Call, Output, key, act, refusal, pages, places}

  abbrev K : Keys
  K = keys (service O)

  abbrev pub Slotted : Type 0
  Slotted = Shelves K Table Page

  abbrev pub cell_in : Slotted → Key → Cell Table Page
  cell_in s k = cell_at K Table Page s k

  pub record SlotOutcome : Type 0 where
    pub mark : Mark
    pub output : Output
    pub desk : Slotted

  abbrev pub empty_desk : Slotted
  empty_desk = record { page_slots = frees (Named K Page) pages; class_places = frees (Named K (Option Table)) places }

  unfoldable pub slot_admit : Bool → Bool → Slotted → Call → Output → Cell Table Page → SlotOutcome
  slot_admit true b s c o y = record { mark = crowded; output = refusal 4 c; desk = s }
  slot_admit false true s c o y = record { mark = crowded; output = refusal 5 c; desk = s }
  slot_admit false false s c o y = record { mark = accepted; output = o; desk = slot_store K Table Page s (key c) y }

  unfoldable pub slot_settle : Slotted → Call → Result Output (Cell Table Page) → SlotOutcome
  slot_settle s c (refuse o) = record { mark = refused; output = o; desk = s }
  slot_settle s c (accept o y) =
      slot_admit (no_slot K Table Page s (key c) y) (no_class_place K Table Page s (key c) y) s c o y

  -- one call
  unfoldable pub slot_step : Slotted → Call → SlotOutcome
  slot_step s c = slot_settle s c (act c (cell_in s (key c)))

  unfoldable pub slot_run : Slotted → List Call → List (Entry (service O))
  slot_run s [] = []
  slot_run s (c ∷ cs) = record { call = c; mark = (slot_step s c).mark; output = (slot_step s c).output }
      ∷ slot_run (slot_step s c).desk cs

  unfoldable pub slot_after : Slotted → List Call → Slotted
  slot_after s [] = s
  slot_after s (c ∷ cs) = slot_after (slot_step s c).desk cs

  -- the shelves s are seen as the desk d
  pub record Seen (s : Slotted) (d : Desk O) : Type 0 where
    pub cells : (j : Key) → d.cells j ≡ cell_in s j
    pub fitting : Fitting K Table Page s
    pub size-pages : length s.page_slots ≡ pages
    pub size-places : length s.class_places ≡ places
    pub count-pages : d.pages_open ≡ used K Page s.page_slots
    pub count-places : d.places_taken ≡ used K (Option Table) s.class_places

  module _ (s : Slotted) (d : Desk O) (z : Seen s d) where
    place-given : (k : Key) → given (find K (Option Table) k s.class_places) ≡ has_place (d.cells k)
    place-given k = ap given (z.fitting.fits k) ∙ given-place (cell_in s k).learned (cell_in s k).page ∙ ap has_place
        (sym (z.cells k))

    page-given : (k : Key) → given (find K Page k s.page_slots) ≡ has_page (d.cells k)
    page-given k = ap has_page (sym (z.cells k))

    same-no_page : (k : Key) (y : Cell Table Page) → no_slot K Table Page s k y ≡ no_page O d k y
    unfolding no_slot no_page
    same-no_page k y = rw (page-given k, full K Page s.page_slots, z.size-pages, ← z.count-pages)

    same-no_place : (k : Key) (y : Cell Table Page) → no_class_place K Table Page s k y ≡ no_place O d k y
    unfolding no_class_place no_place
    same-no_place k y = rw (
      place-given k,
      given-place y.learned y.page,
      full K (Option Table) s.class_places,
      z.size-places,
      ← z.count-places,
    )

    seen-store : (k : Key) (y : Cell Table Page) → no_slot K Table Page s k y ≡ false → no_class_place K Table Page s k y
        ≡ false → Seen (slot_store K Table Page s k y) (store O d k y)
    unfolding slot_store store
    seen-store k y f g =
        record {
          cells = put-each K (laws_of O) (λ j x. x ≡ cell_in (slot_store K Table Page s k y) j) k y d.cells
              (own-cell K Table Page (laws_of O) s z.fitting k y f g)
              (λ j n. z.cells j ∙ sym (other-cell K Table Page (laws_of O) s z.fitting k y f g j n));
          fitting = fitting-store K Table Page (laws_of O) s z.fitting k y f g;
          size-pages = (pages-then K Table Page (laws_of O) s z.fitting k y f g).size ∙ z.size-pages;
          size-places = (places_then K Table Page (laws_of O) s z.fitting k y f g).size ∙ z.size-places;
          count-pages = rw (z.count-pages, ← page-given k)
              (sym (pages-then K Table Page (laws_of O) s z.fitting k y f g).count);
          count-places = rw (z.count-places, ← place-given k, ← given-place y.learned y.page)
              (sym (places_then K Table Page (laws_of O) s z.fitting k y f g).count);
        }

  -- two outcomes that answer the same and leave desks that are seen as the same
  record Alike (a : SlotOutcome) (b : Outcome O) : Type 0 where
    mark : a.mark ≡ b.mark
    output : a.output ≡ b.output
    desk : Seen a.desk b.desk

  alike-step : (s : Slotted) (d : Desk O) (c : Call) → Seen s d → Alike (slot_step s c) (step O d c)
  unfolding slot_step step slot_settle settle slot_admit admit
  alike-step s d c z = subst (λ (x : Cell Table Page). Alike (slot_settle s c (act c (cell_in s (key c))))
      (settle O d c (act c x))) (sym (z.cells (key c))) (go (act c (cell_in s (key c))))
    where
      room : (a b : Bool) (o : Output) (y : Cell Table Page) → no_slot K Table Page s (key c) y ≡ a
          → no_class_place K Table Page s (key c) y ≡ b → Alike (slot_admit a b s c o y) (admit O a b d c o y)
      room true b o y f g = record { mark = refl; output = refl; desk = z }
      room false true o y f g = record { mark = refl; output = refl; desk = z }
      room false false o y f g = record { mark = refl; output = refl; desk = seen-store s d z (key c) y f g }

      go : (r : Result Output (Cell Table Page)) → Alike (slot_settle s c r) (settle O d c r)
      go (refuse o) = record { mark = refl; output = refl; desk = z }
      go (accept o y) = rw (← same-no_page s d z (key c) y, ← same-no_place s d z (key c) y)
          (room (no_slot K Table Page s (key c) y) (no_class_place K Table Page s (key c) y) o y refl refl)

  pub record Refines (s : Slotted) (d : Desk O) (cs : List Call) : Type 0 where
    pub answers : slot_run s cs ≡ run O d cs
    pub ends : Seen (slot_after s cs) (after O d cs)

  -- the same answers for every run, and the desks stay alike
  refines : (cs : List Call) (s : Slotted) (d : Desk O) → Seen s d → Refines s d cs
  unfolding slot_run run slot_after after
  refines [] s d z = record { answers = refl; ends = z }
  refines (c ∷ cs) s d z = go (alike-step s d c z) (λ z'. refines cs (slot_step s c).desk (step O d c).desk z')
    where
      go : Alike (slot_step s c) (step O d c) → (Seen (slot_step s c).desk (step O d c).desk
          → Refines (slot_step s c).desk (step O d c).desk cs) → Refines s d (c ∷ cs)
      go a ih = record {
        answers = λ i. record { call = c; mark = a.mark i; output = a.output i } ∷ (ih a.desk).answers i;
        ends = (ih a.desk).ends;
      }

  seen-empty : Seen empty_desk (new_desk O)
  seen-empty =
      record {
        cells = λ j. rw (frees-find K (Option Table) places j, frees-find K Page pages j);
        fitting =
            record {
              fits = λ j. rw (frees-find K (Option Table) places j, frees-find K Page pages j);
              lone-pages = frees-lone K Page pages;
              lone-places = frees-lone K (Option Table) places;
            };
        size-pages = frees-length (Named K Page) pages;
        size-places = frees-length (Named K (Option Table)) places;
        count-pages = sym (frees-used K Page pages);
        count-places = sym (frees-used K (Option Table) places);
      }

  -- The serial order of a run, served on new shelves: whole pages, each answer as before, each learned table equal and
  -- no page open.
  pub record SlotServed (es : List (Entry (service O))) (s : Slotted) : Type 0 where
    pub whole : Whole (service O) es
    pub answers : slot_run empty_desk (calls (service O) es) ≡ es
    pub tables : (k : Key) → cell_in (slot_after empty_desk (calls (service O) es)) k ≡ shut (cell_in s k)

  pub slot-serialisation : (L : Laws O) (cs : List Call) → SlotServed (serial (service O) (slot_run empty_desk cs))
      (slot_after empty_desk cs)
  slot-serialisation L cs = rw a.answers (record {
    whole = v.whole;
    answers = b.answers ∙ v.answers;
    tables = λ k. sym (b.ends.cells k) ∙ v.tables k ∙ ap shut (a.ends.cells k);
  })
    where
      a : Refines empty_desk (new_desk O) cs
      a = refines cs empty_desk (new_desk O) seen-empty

      v : Served O (new_desk O) (serial (service O) (run O (new_desk O) cs)) (after O (new_desk O) cs)
      v = serialisation O L cs

      b : Refines empty_desk (new_desk O) (calls (service O) (serial (service O) (run O (new_desk O) cs)))
      b = refines (calls (service O) (serial (service O) (run O (new_desk O) cs))) empty_desk (new_desk O) seen-empty
