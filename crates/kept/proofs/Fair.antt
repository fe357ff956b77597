-- What makes a page and a table lawful again: a new page, a page after a band. Assumes nothing.
use mathlib.Core.Path.{◌≡◌, refl, sym, ap}
use mathlib.Core.Bool.{Bool, true, false, not}
use mathlib.Core.List.{List, []}
use mathlib.Core.Option.{Option, some, none}
use Prim.Native.Nat.{ℕ, ◌*◌, ◌≤◌}
use lib.Dec.{leb}
use lib.ListN.{length}
use borrow.Author.Tests.{leb-true}
use Rattle.ground.proofs.Bools.{no_way, both, not-true}
use Rattle.ground.specs.Options.{given, or_else}
use Rattle.turns.proofs.Office.{Cell, cell}
use Rattle.turns.proofs.Slots.{named}
use Rattle.estimate.specs.declared.Table.{Table}
use Rattle.estimate.specs.Estimate.{fresh}
use Rattle.template.specs.Pels.{row_bytes, band_padded}
use Rattle.limits.specs.Limits.{max_width, max_rows}
use Rattle.band.specs.Band.{Written, written, Right}
use Rattle.desk.specs.declared.Key.{Key}
use Rattle.desk.specs.declared.Opening.{Opening}
use Rattle.desk.specs.declared.Direction.{Direction}
use Rattle.desk.specs.declared.Direction.TheVariants as way
use Rattle.desk.specs.Desk.{Page, Place, Desk}
use Rattle.desk.specs.Places.{state_for, is_used, is_learned, no_page}
use Rattle.desk.specs.Lawful.{all, within, lawful_key, low_indexes, no_stray, lawful_page, lawful_place}
use Rattle.desk.proofs.OpenPages.{key-only}
use Rattle.desk.specs.Standing.{Stand, page_of, stand}
use Rattle.desk.specs.Tests.{band_of}
use Rattle.desk.specs.Effects.{Effect, becomes, fresh_table, new_page, served_page}
use Rattle.kept.proofs.View.{K, view_page_by, learned-used}
use Rattle.kept.proofs.Sound.{Sound}
use Rattle.kept.proofs.BandsKept.{written_low, white-clear, last-clear}
use Rattle.kept.proofs.Cells.{page-own, place-own}
use Rattle.kept.proofs.Stored.{Clean, FairPage, FairTable}

-- ---- what a lawful page has, and a learned place
pub record PageFacts (p : Page) : Type 0 where
  pub used : is_used p.state ≡ true
  pub state : leb p.state 2 ≡ true
  pub key : lawful_key p.key ≡ true
  pub width : within 1 p.width max_width ≡ true
  pub table : low_indexes p.table.entries ≡ true
  pub clear : no_stray p.width p.last ≡ true

page-facts : (p : Page) → lawful_page p ≡ true → is_used p.state ≡ true → PageFacts p
unfolding lawful_page
page-facts p h u =
    let p1 = both _ _ (rw u at h) in
    let p2 = both _ _ p1.1 in
    let p3 = both _ _ p2.1 in
    let p4 = both _ _ p3.1 in
    record { used = u; state = p1.0; key = p2.0; width = p3.0; table = p4.0; clear = p4.1 }

facts-page : (p : Page) → PageFacts p → lawful_page p ≡ true
unfolding lawful_page
facts-page p f = rw (f.used, f.state, f.key, f.width, f.table, f.clear)

place-table : (q : Place) → lawful_place q ≡ true → is_learned q.state ≡ true → low_indexes q.table.entries ≡ true
unfolding lawful_place
place-table q h l =
    (both (lawful_key q.key) (low_indexes q.table.entries)
    (both (leb q.state 2) _ (rw (learned-used q.state l, l) at h)).1).1

-- ---- what a call meets at a lawful desk
abbrev pub under : Stand → Cell Table Page
under s = cell s.learned s.page

pub record Owned (k : Key) (s : Stand) : Type 0 where
  pub page : (p : Page) → s.page ≡ some p → PageFacts p × (p.key ≡ k)
  pub learned : (t : Table) → s.learned ≡ some t → low_indexes t.entries ≡ true

pub owned : (d : Desk) → Sound d → (k : Key) → Owned k (stand d k)
unfolding stand
owned d s k =
    record {
      page = λ p e. let o = page-own d s k p e in (page-facts p o.2 o.0, key-only p.key k o.1);
      learned = λ t e. let (q, f, l, h) = place-own d s k t e in rw (← f) (place-table q h l);
    }

-- ---- what each call makes of it
pub record Fair (k : Key) (s : Stand) (e : Effect) : Type 0 where
  pub known : lawful_key k ≡ true
  pub clean : Clean (under s) e.page e.learned
  pub page : FairPage k e.page
  pub table : FairTable e.learned

fresh-lawful : low_indexes fresh ≡ true
unfolding fresh all
fresh-lawful = refl

-- an open page, and what it is
pub held : {A : Type 0} (o : Option A) (a : A) → given o ≡ true → o ≡ some (or_else o a)
held none a h = no_way (sym h)
held (some b) a h = refl

pub there : (o : Option Page) → not (given o) ≡ false → given o ≡ true
there o h = not-true (given o) h

page-state : (w : Direction) → (is_used (state_for w) ≡ true) × (leb (state_for w) 2 ≡ true)
page-state way.Write = (refl, refl)
page-state way.Read = (refl, refl)

shown : (b : Bool) (p : Page) (k : Key) → b ≡ true → p.key ≡ k → view_page_by b p ≡ named K Page k p
shown true p k e m = ap (λ (j : Key). named K Page j p) m
shown false p k e m = no_way (sym e)

module _ (k : Key) (s : Stand) (o : Owned k s) where
  -- a band served: its table and last row
  pub band-fair : (rows : ℕ) (pels : List ℕ) → given s.page ≡ true → 1 ≤ rows → length pels ≡ rows * row_bytes
      (page_of s).width → band_padded
      (page_of s).width pels rows ≡ true
      → FairPage k (becomes (served_page (page_of s) (band_of (page_of s) rows pels)))
  unfolding served_page band_of written
  band-fair rows pels g r l h =
      let p : Page = page_of s in
      let f = o.page p (held s.page no_page g) in
      let wide : 1 ≤ p.width = leb-true 1 p.width (both (leb 1 p.width) (leb p.width max_width)
      f.0.width).0 in
      let w : Written = written p.width rows p.table.entries p.last pels in (
        shown (is_used p.state) (served_page p w) k f.0.used f.1,
        facts-page (served_page p w)
            (record {
              used = f.0.used;
              state = f.0.state;
              key = f.0.key;
              width = f.0.width;
              table = written_low p.width rows p.table.entries p.last pels f.0.table;
              clear = last-clear p.width rows pels wide r l h;
            }),
      )

  -- a band read, where one was found
  pub found-fair : (rows : ℕ) (code : List ℕ) (f : Option (List ℕ)) → Right (page_of s).width rows
      (page_of s).table.entries (page_of s).last code f
      → not (given f) ≡ false → given s.page ≡ true → 1 ≤ rows
      → FairPage k (becomes (served_page (page_of s) (band_of (page_of s) rows
      (or_else f []))))
  found-fair rows code (some band) r h g n = band-fair rows band g n r.0.size r.0.padded
  found-fair rows code none r h g n = no_way h

  pub start-lawful : low_indexes (or_else s.learned fresh_table).entries ≡ true
  start-lawful = go s.learned refl
    where
      go : (t : Option Table) → s.learned ≡ t → low_indexes (or_else t fresh_table).entries ≡ true
      go none e = fresh-lawful
      go (some t) e = o.learned t e

-- a new page
pub new-fair : (ask : Opening) (t : Table) → lawful_key ask.key ≡ true → within 1 ask.width max_width ≡ true
    → low_indexes t.entries ≡ true
    → FairPage ask.key (becomes (new_page ask t))
unfolding new_page
new-fair ask t h w l = (
  shown (is_used (state_for ask.direction)) (new_page ask t) ask.key (page-state ask.direction).0 refl,
  facts-page (new_page ask t)
      (record {
        used = (page-state ask.direction).0;
        state = (page-state ask.direction).1;
        key = h;
        width = w;
        table = l;
        clear = white-clear ask.width;
      }),
)

pub lawful-key : (k : Key) → not (lawful_key k) ≡ false → lawful_key k ≡ true
lawful-key k h = not-true (lawful_key k) h

pub some-rows : (rows : ℕ) → not (within 1 rows max_rows) ≡ false → 1 ≤ rows
some-rows rows h = leb-true 1 rows (both (leb 1 rows) (leb rows max_rows) (not-true (within 1 rows max_rows) h)).0
