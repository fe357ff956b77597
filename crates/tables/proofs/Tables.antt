-- Drop and look: when each is refused, and what each leaves. Assumes nothing.
use mathlib.Core.Path.{◌≡◌, refl, sym, ap, ◌∙◌}
use Prim.Native.Nat.{ℕ, ◌≤◌, ◌<◌}
use mathlib.Core.Bool.{true, false, not}
use mathlib.Core.List.{List, [], ◌∷◌}
use lib.Dec.{ltb}
use lib.ListN.{length, get_or}
use borrow.Author.Tests.{lt-ltb, le-ltb}
use Rattle.limits.specs.Limits.{contexts}
use Rattle.ground.specs.Options.{given, or_else}
use Rattle.store.specs.Store.{in_front}
use Rattle.unique.specs.BandOfCode.{band_of_code}
use Rattle.desk.specs.declared.Key.{Key}
use Rattle.desk.specs.declared.Done.{Done}
use Rattle.desk.specs.declared.Refusal.{Refusal}
use Rattle.parts.specs.declared.Parts.{Parts}
use Rattle.desk.specs.Places.{Found}
use Rattle.std.specs.Prelude.{Result, Ok, Err, Some, None}
use Rattle.desk.specs.Desk.{Place, Desk}
use Rattle.parts.specs.Parts.{desk_of, Whole}
use Rattle.desk.specs.Places.{no_table, free_place, page_found, table_found, is_found}
use Rattle.desk.proofs.Standing.{found-page, found-table}
use Rattle.parts.proofs.Lines.{place_in}
use Rattle.parts.specs.Puts.{PlacePut}
use Rattle.parts.proofs.Puts.{place-whole}
use Rattle.desk.specs.Lawful.{lawful_key, lawful}
use Rattle.desk.specs.Calls.{drops, looks}
use Rattle.desk.specs.Standing.{stand, table_by, open_page, learned_table}
use Rattle.desk.specs.Tests.{tests}
use Rattle.desk.specs.Refusals.{Row, row, refusal, number_of}
use Rattle.desk.specs.Effects.{stays, does, effect}
use Rattle.desk.specs.Changes.{set_at, pages_after, places_after, changed}
use Rattle.desk.specs.Allowed.{answer_of, done_as, number}
use Rattle.parts.specs.Replies.{Serves}
use Rattle.refusals.specs.Stands.{early}
use Rattle.refusals.proofs.Refusing.{front, here, past, at-end, early-here, early-past, accepts}
use Rattle.refusals.proofs.Left.{place-left}

-- ---- the tests after the first
module _ (d : Desk) (k : Key) where
  abbrev drop_rows : List Row
  drop_rows = row 3 (given (open_page d k)) ∷ row 11 (not (given (learned_table d k))) ∷ []

  drop-number : number band_of_code d (drops k) ≡ refusal (front d k true drop_rows)
  unfolding number tests refusal stand
  drop-number = refl

  abbrev look_rows : List ℕ → List Row
  look_rows out = row 11 (not (given (learned_table d k))) ∷ row 9 (ltb (length out) contexts) ∷ []

  look-number : (out : List ℕ) → number band_of_code d (looks k out) ≡ refusal (front d k true (look_rows out))
  unfolding number tests refusal stand
  look-number out = refl

-- ---- the number: s is what the first tests say
module _ (d : Desk) (k : Key) (s : Result (Unit {0}) Refusal) (first : s ≡ early (lawful d) (lawful_key k) true) where
  pub drop-early : (r : Refusal) → s ≡ Err r → number band_of_code d (drops k) ≡ number_of r
  drop-early r e = drop-number d k ∙ (early-here d k true s first r e).1 (drop_rows d k)

  module _ (u : Unit {0}) (z : s ≡ Ok u) where
    drops-on : number band_of_code d (drops k) ≡ refusal (drop_rows d k)
    drops-on = drop-number d k ∙ early-past d k true s first u z (drop_rows d k)

    pub drop-opened : is_found (page_found d k) ≡ true → number band_of_code d (drops k) ≡ 3
    drop-opened o = drops-on ∙ here _ _ (found-page d (page_found d k) ∙ o)

    module _ (o : is_found (page_found d k) ≡ false) where
      pub drop-untaught : is_found (table_found d k) ≡ false → number band_of_code d (drops k) ≡ 11
      drop-untaught t = drops-on ∙ past _ _ (found-page d (page_found d k) ∙ o)
          ∙ here _ _ (ap not (found-table d (table_found d k) ∙ t))

      pub drop-end : is_found (table_found d k) ≡ true → number band_of_code d (drops k) ≡ 0
      drop-end t = drops-on ∙ past _ _ (found-page d (page_found d k) ∙ o)
          ∙ past _ _ (ap not (found-table d (table_found d k) ∙ t)) ∙ at-end

  module _ (out : List ℕ) where
    pub look-early : (r : Refusal) → s ≡ Err r → number band_of_code d (looks k out) ≡ number_of r
    look-early r e = look-number d k out ∙ (early-here d k true s first r e).1 (look_rows d k out)

    module _ (u : Unit {0}) (z : s ≡ Ok u) where
      looks_on : number band_of_code d (looks k out) ≡ refusal (look_rows d k out)
      looks_on = look-number d k out ∙ early-past d k true s first u z (look_rows d k out)

      pub look-untaught : table_found d k ≡ None → number band_of_code d (looks k out) ≡ 11
      look-untaught t = looks_on ∙ here _ _ (ap not (found-table d (table_found d k) ∙ ap is_found t))

      module _ (i : ℕ) (t : table_found d k ≡ Some i) where
        taught : not (given (learned_table d k)) ≡ false
        taught = ap not (found-table d (table_found d k) ∙ ap is_found t)

        pub look-room : length out < contexts → number band_of_code d (looks k out) ≡ 9
        look-room h = looks_on ∙ past _ _ taught ∙ here _ _ (lt-ltb (length out) contexts h)

        pub look-end : contexts ≤ length out → number band_of_code d (looks k out) ≡ 0
        look-end h = looks_on ∙ past _ _ taught ∙ past _ _ (le-ltb (length out) contexts h) ∙ at-end

-- ---- what is done
module _ (p : Parts) (w : Whole p) (k : Key) where
  pub drop-done : (x : Result Done Refusal) (place : Found) (q : Parts) → number band_of_code (desk_of p) (drops k) ≡ 0
      → place ≡ table_found (desk_of p) k → PlacePut p place free_place q
      → answer_of x ≡ done_as (does stays stays)
      → Serves p (drops k) (answer_of x) q []
  unfolding effect changed pages_after places_after
  drop-done x place q e t y z =
      accepts p q (drops k) x [] (place-whole w y) e z
      (place-left y ∙ ap (λ (f : Found). record {
        pages = (desk_of p).pages;
        places = set_at f free_place (desk_of p).places;
      }) t) refl

  pub look-done : (g : Done) (out after : List ℕ) (i : ℕ) → table_found (desk_of p) k ≡ Some i
      → number band_of_code (desk_of p) (looks k out) ≡ 0
      → g.length ≡ contexts → (g.shifts ≡ 0) × (g.revisits ≡ 0)
      → after ≡ in_front (get_or p.learned i []) out
      → Serves p (looks k out) (answer_of (Ok g)) p after
  unfolding effect changed pages_after places_after stand
  look-done g out after i t e n z l =
      accepts p p (looks k out) (Ok g) after w e
      (λ j. record { number = 0; length = n j; shifts = z.0 j; revisits = z.1 j }) refl
      (l ∙ ap (λ (q : Place). in_front q.table.entries out) (sym (place_in p w i))
      ∙ ap (λ (f : Found). in_front (or_else (table_by (desk_of p) f) no_table).entries out) (sym t))
