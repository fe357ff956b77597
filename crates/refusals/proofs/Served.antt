-- A band on the key's open page, from the parts: the page that it meets, and the desk with the page that it leaves.
-- Assumes nothing.
use mathlib.Core.Path.{◌≡◌, sym, ap, ap₂, subst, ◌∙◌}
use Prim.Native.Nat.{ℕ}
use mathlib.Core.Bool.{Bool}
use mathlib.Core.List.{List, []}
use lib.ListN.{length, get_or}
use Rattle.std.specs.Prelude.{Result, Ok}
use Rattle.ground.specs.Options.{or_else}
use Rattle.store.specs.Store.{in_front}
use Rattle.band.specs.Band.{Written}
use Rattle.unique.specs.BandOfCode.{band_of_code}
use Rattle.desk.specs.declared.Key.{Key}
use Rattle.desk.specs.declared.Done.{Done}
use Rattle.desk.specs.declared.Refusal.{Refusal}
use Rattle.parts.specs.declared.Parts.{Parts}
use Rattle.parts.specs.declared.PlaceLine.{PlaceLine}
use Rattle.desk.specs.Desk.{Page, Place}
use Rattle.parts.specs.Parts.{as_page, places_of, desk_of, Whole}
use Rattle.desk.specs.Places.{Found, no_page}
use Rattle.parts.specs.Lines.{no_page_line}
use Rattle.parts.proofs.Lines.{page-in}
use Rattle.parts.specs.Puts.{PagePut}
use Rattle.parts.proofs.Puts.{page-whole}
use Rattle.desk.proofs.OpenPages.{LawfulOpen, lawful-open}
use Rattle.desk.specs.Standing.{stand, page_of, page_by}
use Rattle.desk.specs.Calls.{Call, key_of}
use Rattle.desk.specs.Effects.{Effect, becomes, stays, served_page, serves}
use Rattle.desk.specs.Changes.{pages_after, places_after, changed}
use Rattle.desk.specs.Allowed.{answer_of, done_as, number, effect_on}
use Rattle.parts.specs.Replies.{Serves}
use Rattle.refusals.proofs.Refusing.{Stood, accepts}

-- the page that stands in slot i
abbrev pub page_in : Parts → ℕ → Page
page_in p i = as_page (get_or p.book.pages i no_page_line) (get_or p.working i []) (get_or p.rows i [])

-- what an accepted band gives
abbrev pub band_given : Written → List ℕ → Done
band_given b bytes = record { length = length bytes; shifts = b.shifts; revisits = b.revisits }

module _ (p : Parts) (w : Whole p) (k : Key) (z : Bool) (i : ℕ) (t : Stood (desk_of p) k z i) where
  pub page-is : page_of (stand (desk_of p) k) ≡ page_in p i
  unfolding stand
  page-is = ap (λ (f : Found). or_else (page_by (desk_of p) f) no_page) t.found ∙ page-in p w i

  pub open_in : LawfulOpen (page_in p i)
  open_in = subst LawfulOpen (page-in p w i) (lawful-open (desk_of p) k i t.good t.found)

  -- the page goes on in its slot; no place changes, so that an abandoned page teaches nothing
  served-desk : (q : Parts) (served : Page) → PagePut p i served q
      → desk_of q ≡ changed (desk_of p) k (becomes served) stays
  unfolding changed pages_after places_after
  served-desk q served put =
      ap₂ (λ (ps : List Page) (qs : List Place). record { pages = ps; places = qs }) (put.pages ∙ rw t.found)
      (ap₂ (λ (ls : List PlaceLine) (ts : List (List ℕ)). places_of ls ts) put.places put.learned ∙ rw t.found)

  -- an accepted band: bytes in the front of the buffer, S, the page with its table and last row
  pub band-done : (c : Call) (b : Written) (bytes out after : List ℕ) (x : Result Done Refusal) (q : Parts)
      → key_of c ≡ k → number band_of_code (desk_of p) c ≡ 0
      → effect_on band_of_code (desk_of p) c ≡ serves (page_in p i) b bytes out
      → PagePut p i (as_page (get_or p.book.pages i no_page_line) b.table b.last) q
      → x ≡ Ok (band_given b bytes) → after ≡ in_front bytes out → Serves p c (answer_of x) q after
  unfolding served_page
  band-done c b bytes out after x q key e f put a l =
      accepts p q c x after (page-whole w put) e
      (ap answer_of a ∙ ap (λ (g : Effect). done_as g) (sym f))
      (served-desk q (served_page (page_in p i) b) put
      ∙ ap₂ (λ (j : Key) (g : Effect). changed (desk_of p) j g.page g.learned) (sym key) (sym f))
      (l ∙ ap (λ (g : Effect). g.lent) (sym f))
