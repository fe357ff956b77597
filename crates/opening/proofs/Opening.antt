-- Open: when it is refused, and the desk that it leaves. Assumes nothing.
use mathlib.Core.Path.{◌≡◌, refl, sym, ap, ap₂, ◌∙◌}
use Prim.Native.Nat.{ℕ}
use mathlib.Core.Bool.{Bool, true, false, not, ◌&&◌}
use mathlib.Core.List.{List, [], ◌∷◌}
use lib.ListN.{get_or, set}
use Rattle.limits.specs.Limits.{max_width}
use Rattle.estimate.specs.declared.Table.{Table}
use Rattle.estimate.specs.Estimate.{fresh}
use Rattle.band.specs.Band.{white}
use Rattle.unique.specs.BandOfCode.{band_of_code}
use Rattle.parts.specs.declared.Parts.{Parts}
use Rattle.desk.specs.declared.Opening.{Opening}
use Rattle.desk.specs.declared.Done.{Done}
use Rattle.desk.specs.declared.Refusal.{Refusal}
use Rattle.desk.specs.declared.Refusal.TheVariants.{PlacesFull}
use Rattle.desk.specs.Places.{Found}
use Rattle.std.specs.Prelude.{Result, Ok, Err, Some, None}
use Rattle.desk.specs.Desk.{Page, Place, Desk, Outcome}
use Rattle.parts.specs.Parts.{as_page, desk_of, Whole}
use Rattle.desk.specs.Places.{page_found, table_found, free_page_found, free_place_found, is_found}
use Rattle.desk.proofs.Standing.{found-page, found-table}
use Rattle.parts.proofs.Lines.{place_in}
use Rattle.parts.specs.Puts.{PagePut, PlacePut}
use Rattle.parts.proofs.Puts.{page-whole}
use Rattle.desk.specs.Lawful.{within, lawful_key, lawful}
use Rattle.desk.specs.Refusals.{row, refusal, number_of}
use Rattle.desk.specs.Calls.{opens}
use Rattle.desk.specs.Standing.{stand}
use Rattle.desk.specs.Tests.{tests}
use Rattle.desk.specs.Effects.{stays, does, fresh_table, new_page, effect}
use Rattle.desk.specs.Changes.{reserved_place, set_at, pages_after, places_after, changed}
use Rattle.desk.specs.Allowed.{answer_of, done_as, number, Allowed}
use Rattle.parts.specs.Replies.{outcome_of, Serves}
use Rattle.refusals.specs.Stands.{early}
use Rattle.refusals.proofs.Refusing.{here, past, at-end, early-here, early-past, refuses-so, accepts-so, accepts}
use Rattle.refusals.proofs.Refusing.{nothing_lent}
use Rattle.refusals.proofs.Left.{page-left, place-left}
use Rattle.opening.specs.Opening.{open_new, new_line}

pub new-refused : (p : Parts) (ask : Opening) (i : ℕ) → is_found (free_place_found (desk_of p)) ≡ false
    → outcome_of (answer_of (Err PlacesFull)) p ≡ open_new (desk_of p) ask i
unfolding open_new
new-refused p ask i f = rw f

pub new-done : (p between q : Parts) (ask : Opening) (i : ℕ) (place : Found) (table : Table) (x : Result Done Refusal)
    → answer_of x ≡ done_as (does stays stays)
    → is_found (free_place_found (desk_of p)) ≡ true → place ≡ free_place_found (desk_of p)
    → table.entries ≡ fresh
    → PlacePut p place (reserved_place ask.key) between
    → PagePut between i (as_page (new_line ask) table.entries white) q
    → outcome_of (answer_of x) q ≡ open_new (desk_of p) ask i
unfolding open_new new_page
new-done p between q ask i place table x z f e t a b =
    (λ j. record { answer = z j; desk = put j }) ∙ rw f
  where
    put : desk_of q ≡ record {
      pages = set (desk_of p).pages i (new_page ask fresh_table);
      places = set_at (free_place_found (desk_of p)) (reserved_place ask.key) (desk_of p).places;
    }
    put =
        page-left b
        ∙ ap₂ (λ (d : Desk) (es : List ℕ). record {
          pages = set d.pages i (as_page (new_line ask) es white);
          places = d.places;
        })
        (place-left a) t
        ∙ ap (λ (y : Found). record {
          pages = set (desk_of p).pages i (new_page ask fresh_table);
          places = set_at y (reserved_place ask.key) (desk_of p).places;
        }) e

-- ---- the number: s is what the first three tests say
module _ (p : Parts) (ask : Opening) (s : Result (Unit {0}) Refusal) (first : s ≡ early (lawful (desk_of p))
    (lawful_key ask.key) (within 1 ask.width max_width)) where
  abbrev d : Desk
  d = desk_of p

  pub open-early : (r : Refusal) → s ≡ Err r → number band_of_code d (opens ask) ≡ number_of r
  unfolding number tests
  open-early r e = (early-here d ask.key (within 1 ask.width max_width) s first r e).1 _

  module _ (u : Unit {0}) (z : s ≡ Ok u) where
    pub open-opened : is_found (page_found d ask.key) ≡ true → number band_of_code d (opens ask) ≡ 3
    unfolding number tests stand
    open-opened o = early-past d ask.key (within 1 ask.width max_width) s first u z _
        ∙ here _ _ (found-page d (page_found d ask.key) ∙ o)

    module _ (o : is_found (page_found d ask.key) ≡ false) where
      pub open-pages : free_page_found d ≡ None → number band_of_code d (opens ask) ≡ 4
      unfolding number tests stand
      open-pages f =
          early-past d ask.key (within 1 ask.width max_width) s first u z _
          ∙ past _ _ (found-page d (page_found d ask.key) ∙ o)
          ∙ here _ _ (ap (λ (x : Found). not (is_found x)) f)

      module _ (i : ℕ) (f : free_page_found d ≡ Some i) where
        left : number band_of_code d (opens ask) ≡ refusal
            (row 5 (not (is_found (table_found d ask.key)) && not (is_found (free_place_found d))) ∷ [])
        unfolding number tests stand
        left =
            early-past d ask.key (within 1 ask.width max_width) s first u z _
            ∙ past _ _ (found-page d (page_found d ask.key) ∙ o)
            ∙ past _ _ (ap (λ (x : Found). not (is_found x)) f)
            ∙ ap (λ b. refusal (row 5 (not b && not (is_found (free_place_found d))) ∷ []))
            (found-table d (table_found d ask.key))

        -- the class has a table
        pub open-taught : (w : Whole p) (j : ℕ) (q : Parts) (x : Result Done Refusal)
            → answer_of x ≡ done_as (does stays stays) → table_found d ask.key ≡ Some j
            → PagePut p i (as_page (new_line ask) (get_or p.learned j []) white) q
            → Serves p (opens ask) (answer_of x) q []
        unfolding effect changed pages_after places_after stand new_page
        open-taught w j q x still t y =
            accepts p q (opens ask) x [] (page-whole w y)
            (left ∙ past _ _ (ap (λ (y : Found). not (is_found y) && not (is_found (free_place_found d))) t) ∙ at-end)
            still
            (page-left y ∙ ap₂ (λ (ps : List Page) (qs : List Place). record { pages = ps; places = qs })
            (rw (o, f, t) (ap (λ (y : Place). set d.pages i (new_page ask y.table)) (sym (place_in p w j))))
            (rw (o, t))) refl

        -- it has none
        pub open-left : (r : Outcome) → table_found d ask.key ≡ None → r ≡ open_new d ask i
            → Allowed d (opens ask) r []
        unfolding effect changed pages_after places_after stand open_new
        open-left r t a = go (is_found (free_place_found d)) refl
          where
            numbered : (b : Bool) → is_found (free_place_found d) ≡ b → number band_of_code d (opens ask) ≡ refusal
                (row 5 (not b) ∷ [])
            numbered b e = left ∙ rw (t, e)

            go : (b : Bool) → is_found (free_place_found d) ≡ b → Allowed d (opens ask) r []
            go true e =
                accepts-so d (opens ask) r [] (numbered true e ∙ past _ _ refl ∙ at-end) (a ∙ rw (e, o, f, t)) refl
            go false e = refuses-so d (opens ask) PlacesFull r [] (numbered false e ∙ here _ _ refl) (a ∙ rw e)
                (nothing_lent 5)
