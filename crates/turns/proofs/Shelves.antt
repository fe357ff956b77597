-- A row of page slots and a row of class places, the lowest free one taken: what a change under one key leaves as it
-- was. Assumes nothing.
use mathlib.Core.Path.{◌≡◌, refl, sym, ap, ◌∙◌, subst}
use mathlib.Core.Bool.{Bool, true, false, ◌&&◌, not}
use mathlib.Core.List.{List, [], ◌∷◌}
use mathlib.Core.Option.{Option, some, none}
use Prim.Native.Nat.{ℕ, zero, suc}
use lib.ListN.{length}
use Rattle.ground.specs.Options.{given}
use Rattle.turns.specs.Service.{Keys, KeyLaws}
use Rattle.turns.proofs.Office.{Cell, cell}
use Rattle.turns.proofs.CellDesk.{placed}
use Rattle.turns.proofs.Slots.{Named, Slots, find, update, used, free, Lone, Updated, updated}

abbrev pub join : {A : Type 0} → Option (Option A) → Option A
join none = none
join (some a) = a

-- a place holds a learned table, or is reserved (none), or is free (no place)
abbrev pub place_of : {T P : Type 0} → Option T → Option P → Option (Option T)
place_of (some t) p = some (some t)
place_of none (some p) = some none
place_of none none = none

join-place : {T P : Type 0} (t : Option T) (p : Option P) → join (place_of t p) ≡ t
join-place (some t) p = refl
join-place none (some p) = refl
join-place none none = refl

pub given-place : {T P : Type 0} (t : Option T) (p : Option P) → given (place_of t p) ≡ placed t p
given-place (some t) p = refl
given-place none (some p) = refl
given-place none none = refl

module _ (K : Keys) (Table Page : Type 0) where
  open K use {Key, same}

  pub record Shelves : Type 0 where
    pub page_slots : Slots K Page
    pub class_places : Slots K (Option Table)

  -- what stands under a key
  abbrev pub cell_at : Shelves → Key → Cell Table Page
  cell_at s k = cell (join (find K (Option Table) k s.class_places)) (find K Page k s.page_slots)

  unfoldable pub slot_store : Shelves → Key → Cell Table Page → Shelves
  slot_store s k y =
      record {
        page_slots = update K Page k y.page s.page_slots;
        class_places = update K (Option Table) k (place_of y.learned y.page) s.class_places;
      }

  -- 4: a page is to be opened, and no slot is free; 5: a place is to be taken, and none is free
  unfoldable pub no_slot : Shelves → Key → Cell Table Page → Bool
  no_slot s k y = (not (given (find K Page k s.page_slots)) && given y.page) && not (free K Page s.page_slots)

  unfoldable pub no_class_place : Shelves → Key → Cell Table Page → Bool
  no_class_place s k y = (not (given (find K (Option Table) k s.class_places))
      && given (place_of y.learned y.page)) && not (free K (Option Table) s.class_places)

  -- different keys; an open page has its place, and a place that is only reserved has its page
  pub record Fitting (s : Shelves) : Type 0 where
    pub fits : (j : Key) → find K (Option Table) j s.class_places ≡ place_of (cell_at s j).learned (cell_at s j).page
    pub lone-pages : Lone K Page s.page_slots
    pub lone-places : Lone K (Option Table) s.class_places

  -- one key's cell stored: it stands there, the others are as they were, and all fits as before
  module _ (L : KeyLaws Key same) (s : Shelves) (z : Fitting s) (k : Key) (y : Cell Table Page)
      (f : no_slot s k y ≡ false) (g : no_class_place s k y ≡ false) where
    open L use {same_only}

    pub pages-then : Updated K Page k y.page s.page_slots (update K Page k y.page s.page_slots)
    unfolding no_slot
    pages-then = updated K Page L k y.page s.page_slots z.lone-pages f

    pub places_then : Updated K (Option Table) k (place_of y.learned y.page) s.class_places
        (update K (Option Table) k (place_of y.learned y.page) s.class_places)
    unfolding no_class_place
    places_then = updated K (Option Table) L k (place_of y.learned y.page) s.class_places z.lone-places g

    pub own-cell : y ≡ cell_at (slot_store s k y) k
    unfolding slot_store
    own-cell = λ i. record {
      learned = sym (ap join places_then.self ∙ join-place y.learned y.page) i;
      page = sym pages-then.self i;
    }

    pub other-cell : (j : Key) → same k j ≡ false → cell_at (slot_store s k y) j ≡ cell_at s j
    unfolding slot_store
    other-cell j n = λ i. record { learned = join (places_then.other j n i); page = pages-then.other j n i }

    fits-then : (j : Key) → find K (Option Table) j (slot_store s k y).class_places ≡ place_of
        (cell_at (slot_store s k y) j).learned (cell_at (slot_store s k y) j).page
    unfolding slot_store
    fits-then j = go (same k j) refl
      where
        go : (b : Bool) → same k j ≡ b → find K (Option Table) j (slot_store s k y).class_places ≡ place_of
            (cell_at (slot_store s k y) j).learned (cell_at (slot_store s k y) j).page
        go true e = subst (λ (i : Key). find K (Option Table) i (slot_store s k y).class_places ≡ place_of
            (cell_at (slot_store s k y) i).learned (cell_at (slot_store s k y) i).page) (same_only k j e)
            (places_then.self ∙ ap (λ (x : Cell Table Page). place_of x.learned x.page) own-cell)
        go false e = places_then.other j e ∙ z.fits j ∙ ap (λ (x : Cell Table Page). place_of x.learned x.page)
            (sym (other-cell j e))

    pub fitting-store : Fitting (slot_store s k y)
    unfolding slot_store
    fitting-store = record { fits = fits-then; lone-pages = pages-then.lone; lone-places = places_then.lone }

-- ---- rows of free slots
unfoldable pub frees : (A : Type 0) → ℕ → List (Option A)
frees A zero = []
frees A (suc n) = none ∷ frees A n

pub frees-length : (A : Type 0) (n : ℕ) → length (frees A n) ≡ n
unfolding frees
frees-length A zero = refl
frees-length A (suc n) = ap suc (frees-length A n)

module _ (K : Keys) where
  open K use {Key}

  pub frees-find : (A : Type 0) (n : ℕ) (k : Key) → find K A k (frees (Named K A) n) ≡ none
  unfolding frees find
  frees-find A zero k = refl
  frees-find A (suc n) k = frees-find A n k

  pub frees-lone : (A : Type 0) (n : ℕ) → Lone K A (frees (Named K A) n)
  unfolding frees Lone
  frees-lone A zero = tt
  frees-lone A (suc n) = frees-lone A n

  pub frees-used : (A : Type 0) (n : ℕ) → used K A (frees (Named K A) n) ≡ 0
  unfolding frees used
  frees-used A zero = refl
  frees-used A (suc n) = frees-used A n
