-- Close and abandon: when each is refused, and the desk that each leaves. Assumes nothing.
use mathlib.Core.Path.{◌≡◌, refl, sym, ap, ap₂, ◌∙◌}
use Prim.Native.Nat.{ℕ}
use mathlib.Core.Bool.{Bool, true, false, cond}
use mathlib.Core.List.{List, []}
use lib.ListN.{get_or, set}
use Rattle.ground.specs.Options.{or_else}
use Rattle.estimate.specs.declared.Table.{Table}
use Rattle.unique.specs.BandOfCode.{band_of_code}
use Rattle.desk.specs.declared.Key.{Key}
use Rattle.desk.specs.declared.Done.{Done}
use Rattle.desk.specs.declared.Refusal.{Refusal}
use Rattle.parts.specs.declared.Parts.{Parts}
use Rattle.parts.specs.declared.PlaceLine.{PlaceLine}
use Rattle.desk.specs.Places.{Found}
use Rattle.std.specs.Prelude.{Result, Some, None}
use Rattle.parts.specs.declared.Sought.TheVariants.{Used, Learned}
use Rattle.desk.specs.Desk.{Page, Place, Desk}
use Rattle.parts.specs.Parts.{desk_of, Whole}
use Rattle.desk.specs.Places.{no_page, unused_page, free_place, find_by, page_found, place_found, table_found}
use Rattle.desk.specs.Places.{free_place_found}
use Rattle.desk.specs.Places.{is_found}
use Rattle.parts.specs.Finding.{place_sought}
use Rattle.parts.proofs.Lines.{page-in, find-places}
use Rattle.parts.specs.Puts.{PagePut, PlacePut}
use Rattle.parts.proofs.Puts.{page-whole, place-whole}
use Rattle.desk.specs.Lawful.{lawful}
use Rattle.desk.proofs.OpenPages.{page-placed}
use Rattle.desk.specs.Refusals.{refusal}
use Rattle.desk.specs.Calls.{closes, abandons}
use Rattle.desk.specs.Standing.{stand, page_of, page_by}
use Rattle.desk.specs.Tests.{tests}
use Rattle.desk.specs.Effects.{stays, gone, does, effect}
use Rattle.desk.specs.Changes.{learned_place, set_at, or_free, pages_after, places_after, changed}
use Rattle.desk.specs.Allowed.{answer_of, done_as, number}
use Rattle.parts.specs.Replies.{Serves}
use Rattle.refusals.proofs.Refusing.{paged, accepts}
use Rattle.refusals.proofs.Left.{page-left, place-left}
use Rattle.closing.specs.Leaving.{reserved_found}

pub none-reserved : (k : Key) (lines : List PlaceLine) → is_found (find_by (place_sought (Learned k)) lines 0) ≡ true
    → None ≡ reserved_found k lines
unfolding reserved_found
none-reserved k lines e = rw e

pub one-reserved : (k : Key) (lines : List PlaceLine) → is_found (find_by (place_sought (Learned k)) lines 0) ≡ false
    → find_by (place_sought (Used k)) lines 0 ≡ reserved_found k lines
unfolding reserved_found
one-reserved k lines e = rw e

module _ (d : Desk) (k : Key) where
  -- both are tested alike
  pub close-number : number band_of_code d (closes k) ≡ refusal (paged d k true [])
  unfolding number tests refusal stand
  close-number = refl

  pub abandon-number : number band_of_code d (abandons k) ≡ refusal (paged d k true [])
  unfolding number tests refusal stand
  abandon-number = refl

-- the desk after a place was put and the page cleared in its slot
module _ (p : Parts) (w : Whole p) (k : Key) (i : ℕ) (f : page_found (desk_of p) k ≡ Some i) (between q : Parts)
    (cleared : PagePut between i unused_page q) where
  after : {found : Found} {place : Place} → PlacePut p found place between
      → desk_of q ≡ record { pages = pages_after (desk_of p) k gone; places = set_at found place (desk_of p).places }
  unfolding pages_after
  after x =
      page-left cleared
      ∙ ap (λ (d : Desk). record { pages = set d.pages i unused_page; places = d.places }) (place-left x)
      ∙ rw f

  module _ (place : Found) (x : Result Done Refusal) (still : answer_of x ≡ done_as (does stays stays)) where
    -- ---- close: an open page of a lawful desk has its place
    pub close-done : lawful (desk_of p) ≡ true → number band_of_code (desk_of p) (closes k) ≡ 0
        → place ≡ find_by (place_sought (Used k)) p.book.places 0
        → PlacePut p place (learned_place k (record { entries = get_or p.working i [] })) between
        → Serves p (closes k) (answer_of x) q []
    unfolding effect changed places_after stand learned_place
    close-done l e h y =
        accepts p q (closes k) x [] (page-whole (place-whole w y) cleared) e still
        (after y ∙ ap₂ (λ (h : Found) (t : Table). record {
          pages = pages_after (desk_of p) k gone;
          places = set_at h (learned_place k t) (desk_of p).places;
        }) put table) refl
      where
        put : place ≡ or_free (place_found (desk_of p) k) (free_place_found (desk_of p))
        put =
            h ∙ sym (find-places p w (Used k))
            ∙ ap (λ (b : Bool). cond b (place_found (desk_of p) k) (free_place_found (desk_of p)))
            (sym (page-placed (desk_of p) k i l f))

        table : record { entries = get_or p.working i [] } ≡ (page_of (stand (desk_of p) k)).table
        table = ap (λ (y : Page). y.table) (sym (page-in p w i)) ∙ ap (λ (h : Found). (or_else (page_by (desk_of p) h)
            no_page).table) (sym f)

    -- ---- abandon: a class with a table keeps it; a place that was only reserved is free
    pub abandon-done : number band_of_code (desk_of p) (abandons k) ≡ 0 → place ≡ reserved_found k p.book.places
        → PlacePut p place free_place between
        → Serves p (abandons k) (answer_of x) q []
    unfolding effect changed places_after reserved_found
    abandon-done e h y =
        accepts p q (abandons k) x [] (page-whole (place-whole w y) cleared) e still
        (after y ∙ ap (λ (qs : List Place). record { pages = pages_after (desk_of p) k gone; places = qs })
        (ap (λ (h : Found). set_at h free_place (desk_of p).places) h
        ∙ ap₂ (λ (t h : Found). set_at (cond (is_found t) None h) free_place (desk_of p).places)
        (sym (find-places p w (Learned k))) (sym
        (find-places p w (Used k)))
        ∙ go (is_found (table_found (desk_of p) k)))) refl
      where
        go : (b : Bool) → set_at (cond b None (place_found (desk_of p) k)) free_place (desk_of p).places
            ≡ cond b (desk_of p).places (set_at (place_found (desk_of p) k) free_place (desk_of p).places)
        go true = refl
        go false = refl
