-- A lawful desk, taken apart: lawful pages and places, and slots that fit (different keys, each page with its place,
-- each reserved place with its page). Assumes nothing.
use mathlib.Core.Path.{◌≡◌, refl, sym, ap, ◌∙◌, subst}
use mathlib.Core.Bool.{Bool, true, false, cond, not, ◌&&◌, ◌||◌}
use mathlib.Core.List.{List, [], ◌∷◌, map}
use mathlib.Core.Option.{Option, some, none}
use Prim.Native.Nat.{ℕ, zero, suc}
use native.Mathlib.Omega.{arith}
use lib.Dec.{eqb, leb}
use borrow.Author.Tests.{eqb-true, leb-true}
use Rattle.ground.proofs.Options.{none-given, mapped, given-mapped}
use Rattle.ground.specs.Options.{given}
use Rattle.turns.proofs.Slots.{find, Lone}
use Rattle.turns.proofs.Shelves.{join, place_of, Fitting}
use Rattle.estimate.specs.declared.Table.{Table}
use Rattle.desk.specs.declared.Key.{Key}
use Rattle.desk.specs.Desk.{Page, Place, Desk}
use Rattle.desk.specs.Places.{is_used, is_learned, same_key, is_page_of, is_place_of}
use Rattle.desk.specs.Lawful.{all, any, apart, lawful_page, lawful_place, same_pages, same_places, page_has_place}
use Rattle.desk.specs.Lawful.{place_has_page, lawful}
use Rattle.desk.proofs.OpenPages.{key-self, key-only}
use Rattle.kept.proofs.Lists.{pick, pick_all, pick-any, pick-passes}
use Rattle.ground.proofs.Bools.{no_way, both, and-true, not-false, or-true}
use Rattle.kept.proofs.View.{K, view_page_by, view_page, learned_by, learned_in, view_place_by, view_place, shelves}
use Rattle.kept.proofs.View.{page-read, place_read}

pub record Sound (d : Desk) : Type 0 where
  pub pages-lawful : all lawful_page d.pages ≡ true
  pub places-lawful : all lawful_place d.places ≡ true
  pub fitting : Fitting K Table Page (shelves d)

-- ---- different keys
page-any : (k : Key) (s : List Page) → given (find K Page k (map view_page s)) ≡ any (is_page_of k) s
page-any k s = ap given (page-read k s) ∙ pick-any (is_page_of k) s

place-any : (k : Key) (s : List Place) → given (find K (Option Table) k (map view_place s)) ≡ any (is_place_of k) s
place-any k s = ap given (place_read k s) ∙ given-mapped learned_in (pick (is_place_of k) s) ∙ pick-any (is_place_of k) s

pages-lone : (s : List Page) → apart same_pages s ≡ true → Lone K Page (map view_page s)
unfolding apart Lone
pages-lone [] h = tt
pages-lone (p ∷ s) h = go (is_used p.state) (both (not (any (same_pages p) s)) (apart same_pages s) h).0
    (pages-lone s (both (not (any (same_pages p) s)) (apart same_pages s) h).1)
  where
    go : (b : Bool) → not (any (λ q. b && is_page_of p.key q) s) ≡ true → Lone K Page (map view_page s)
        → Lone K Page (view_page_by b p ∷ map view_page s)
    go true n ih = (
      none-given (find K Page p.key (map view_page s)) (page-any p.key s
          ∙ not-false (any (is_page_of p.key) s) n),
      ih,
    )
    go false n ih = ih

places-lone : (s : List Place) → apart same_places s ≡ true → Lone K (Option Table) (map view_place s)
unfolding apart Lone
places-lone [] h = tt
places-lone (p ∷ s) h = go (is_used p.state) (both (not (any (same_places p) s)) (apart same_places s) h).0
    (places-lone s (both (not (any (same_places p) s)) (apart same_places s) h).1)
  where
    go : (b : Bool) → not (any (λ q. b && is_place_of p.key q) s) ≡ true → Lone K (Option Table) (map view_place s)
        → Lone K (Option Table) (view_place_by b p ∷ map view_place s)
    go true n ih = (
      none-given (find K (Option Table) p.key (map view_place s)) (place-any p.key s
          ∙ not-false (any (is_place_of p.key) s) n),
      ih,
    )
    go false n ih = ih

any-never : {A : Type 0} (s : List A) → any (λ q. false) s ≡ false
unfolding any
any-never [] = refl
any-never (x ∷ s) = any-never s

lone-pages : (s : List Page) → Lone K Page (map view_page s) → apart same_pages s ≡ true
unfolding apart Lone
lone-pages [] h = refl
lone-pages (p ∷ s) h = go (is_used p.state) h (lone-pages s)
  where
    go : (b : Bool) → Lone K Page (view_page_by b p ∷ map view_page s)
        → (Lone K Page (map view_page s) → apart same_pages s ≡ true)
        → (not (any (λ q. b && is_page_of p.key q) s) && apart same_pages s) ≡ true
    go true h ih = rw (← page-any p.key s, h.0) (ih h.1)
    go false h ih = rw (any-never s) (ih h)

lone-places : (s : List Place) → Lone K (Option Table) (map view_place s) → apart same_places s ≡ true
unfolding apart Lone
lone-places [] h = refl
lone-places (p ∷ s) h = go (is_used p.state) h (lone-places s)
  where
    go : (b : Bool) → Lone K (Option Table) (view_place_by b p ∷ map view_place s)
        → (Lone K (Option Table) (map view_place s) → apart same_places s ≡ true)
        → (not (any (λ q. b && is_place_of p.key q) s) && apart same_places s) ≡ true
    go true h ih = rw (← place-any p.key s, h.0) (ih h.1)
    go false h ih = rw (any-never s) (ih h)

-- ---- what holds of the key of each element that passes u holds of each key under which one is found
module _ {A : Type 0} (u : A → Bool) (key_of : A → Key) (Q : Key → Bool) where
  abbrev under : Key → A → Bool
  under j a = u a && same_key (key_of a) j

  each-key : (s : List A) → all (λ a. not (u a) || Q (key_of a)) s ≡ true → (j : Key) → any (under j) s ≡ true
      → Q j ≡ true
  unfolding all any
  each-key [] h j e = no_way (sym e)
  each-key (a ∷ s) h j e =
      go (u a) (same_key (key_of a) j) refl (both (not (u a) || Q (key_of a)) (all (λ a. not (u a) || Q (key_of a)) s)
      h).0 e
      (each-key s (both (not (u a) || Q (key_of a)) (all (λ a. not (u a) || Q (key_of a)) s) h).1 j)
    where
      go : (b c : Bool) → same_key (key_of a) j ≡ c → (not b || Q (key_of a)) ≡ true → ((b && c) || any (under j) s)
          ≡ true → (any (under j) s ≡ true → Q j ≡ true) → Q j ≡ true
      go true true i q e rest = subst (λ (k : Key). Q k ≡ true) (key-only (key_of a) j i) q
      go true false i q e rest = rest e
      go false c i q e rest = rest e

  key-each : (s : List A) → ((j : Key) → any (under j) s ≡ true → Q j ≡ true) → all (λ a. not (u a) || Q (key_of a)) s
      ≡ true
  unfolding all any
  key-each [] h = refl
  key-each (a ∷ s) h = and-true (not (u a) || Q (key_of a)) (all (λ a. not (u a) || Q (key_of a)) s)
      (go (u a) (h (key_of a))) (key-each s (λ j e. h j (or-true (u a && same_key (key_of a) j) (any (under j) s) e)))
    where
      go : (b : Bool) → (((b && same_key (key_of a) (key_of a)) || any (under (key_of a)) s) ≡ true → Q (key_of a) ≡ true)
          → (not b || Q (key_of a)) ≡ true
      go true f = f (rw (key-self (key_of a)))
      go false f = refl

-- ---- reserved places
abbrev is_reserved : Place → Bool
is_reserved q = eqb q.state 1

abbrev is_reserved_of : Key → Place → Bool
is_reserved_of k q = is_reserved q && same_key q.key k

pick-some-any : {A : Type 0} (t u : A → Bool) (s : List A) (a : A) → pick t s ≡ some a → u a ≡ true → any u s ≡ true
unfolding pick any
pick-some-any t u [] a e h = no_way (ap given (sym e))
pick-some-any {A} t u (x ∷ s) a e h = go (t x) e (pick-some-any t u s a)
  where
    go : (b : Bool) → cond b (some x) (pick t s) ≡ some a → (pick t s ≡ some a → u a ≡ true → any u s ≡ true)
        → (u x || any u s) ≡ true
    go true f ih = let q : x ≡ a = cc in rw (q, h)
    go false f ih = or-true (u x) (any u s) (ih f h)

-- used, not learned, at most 2: reserved
state-one : (n : ℕ) → is_used n ≡ true → is_learned n ≡ false → leb n 2 ≡ true → eqb n 1 ≡ true
state-one zero u l h = no_way (sym u)
state-one (suc zero) u l h = refl
state-one (suc (suc zero)) u l h = no_way l
state-one (suc (suc (suc n))) u l h = absurd (omega (arith, leb-true (suc (suc (suc n))) 2 h))

state-few : (q : Place) → lawful_place q ≡ true → is_used q.state ≡ true → leb q.state 2 ≡ true
unfolding lawful_place
state-few q h u = (both _ _ (rw u at h)).0

-- found under the key, without a learned table
find-reserved : (k : Key) (s : List Place) → all lawful_place s ≡ true → find K (Option Table) k (map view_place s)
    ≡ some none → any (is_reserved_of k) s ≡ true
find-reserved k s h e = go (pick (is_place_of k) s) refl (sym (place_read k s) ∙ e)
  where
    learned-not : (b : Bool) (q : Place) → learned_by b q ≡ none → b ≡ false
    learned-not true q e = no_way (ap given e)
    learned-not false q e = refl

    go : (o : Option Place) → pick (is_place_of k) s ≡ o → mapped learned_in o ≡ some none → any (is_reserved_of k) s ≡ true
    go none f m = no_way (ap given (sym m))
    go (some q) f m =
        let i : learned_by (is_learned q.state) q ≡ none = cc in
        let p = both (is_used q.state) (same_key q.key k) (pick-passes (is_place_of k) s q f) in
        pick-some-any (is_place_of k) (is_reserved_of k) s q f
        (and-true (is_reserved q) (same_key q.key k)
        (state-one q.state p.0 (learned-not (is_learned q.state) q i)
        (state-few q (pick_all lawful_place (is_place_of k) s q h f) p.0))
        p.1)

reserved-find : (k : Key) (s : List Place) → Lone K (Option Table) (map view_place s) → any (is_reserved_of k) s ≡ true
    → find K (Option Table) k (map view_place s) ≡ some none
unfolding find any Lone
reserved-find k [] l h = no_way (sym h)
reserved-find k (q ∷ s) l h = go (is_used q.state) refl l (reserved-find k s)
  where
    unused : (b : Bool) → eqb q.state 1 ≡ b → is_used q.state ≡ false
        → ((b && same_key q.key k) || any (is_reserved_of k) s) ≡ true
        → any (is_reserved_of k) s ≡ true
    unused true e f h = no_way (rw (eqb-true q.state 1 e) at f)
    unused false e f h = h

    inner : (c : Bool) → same_key q.key k ≡ c → (b : Bool) → eqb q.state 1 ≡ b → find K (Option Table) q.key
        (map view_place s) ≡ none
        → (any (is_reserved_of k) s ≡ true → find K (Option Table) k (map view_place s) ≡ some none)
        → ((b && c) || any (is_reserved_of k) s) ≡ true → cond c (some (learned_in q))
        (find K (Option Table) k (map view_place s)) ≡ some none
    inner true i true e n ih h = rw (eqb-true q.state 1 e)
    inner true i false e n ih h =
        let z : find K (Option Table) k (map view_place s) ≡ none
        = subst (λ (j : Key). find K (Option Table) j (map view_place s) ≡ none) (key-only q.key k i) n in
        no_way (ap given (sym (ih h) ∙ z))
    inner false i true e n ih h = ih h
    inner false i false e n ih h = ih h

    go : (b : Bool) → is_used q.state ≡ b → Lone K (Option Table) (view_place_by b q ∷ map view_place s)
        → (Lone K (Option Table) (map view_place s) → any (is_reserved_of k) s ≡ true
        → find K (Option Table) k (map view_place s) ≡ some none)
        → find K (Option Table) k (view_place_by b q ∷ map view_place s) ≡ some none
    go true f l ih = inner (same_key q.key k) refl (eqb q.state 1) refl l.0 (ih l.1) h
    go false f l ih = ih l (unused (eqb q.state 1) refl f h)

-- ---- there and back
fits_by : (o : Option (Option Table)) (p : Option Page) → (given p ≡ true → given o ≡ true)
    → (o ≡ some none → given p ≡ true) → o ≡ place_of (join o) p
fits_by (some (some t)) p f g = refl
fits_by (some none) (some p) f g = refl
fits_by (some none) none f g = no_way (sym (g refl))
fits_by none (some p) f g = no_way (sym (f refl))
fits_by none none f g = refl

page-placed : (o : Option (Option Table)) (p : Option Page) → o ≡ place_of (join o) p → given p ≡ true → given o ≡ true
page-placed (some t) p e h = refl
page-placed none (some p) e h = no_way (ap given (sym e))
page-placed none none e h = no_way (sym h)

reserved-paged : (o : Option (Option Table)) (p : Option Page) → o ≡ place_of (join o) p → o ≡ some none → given p ≡ true
reserved-paged o (some p) e h = refl
reserved-paged (some none) none e h = no_way (ap given e)
reserved-paged (some (some t)) none e h = no_way (ap (λ o. given (join o)) h)
reserved-paged none none e h = no_way (ap given (sym h))

pub lawful-sound : (d : Desk) → lawful d ≡ true → Sound d
unfolding lawful shelves
lawful-sound d h =
    let p1 = both (all lawful_page d.pages && all lawful_place d.places)
    ((apart same_pages d.pages && apart same_places d.places) && (all (page_has_place d.places) d.pages
    && all (place_has_page d.pages) d.places)) h in
    let p2 = both (all lawful_page d.pages) (all lawful_place d.places) p1.0 in
    let p3 = both (apart same_pages d.pages && apart same_places d.places)
    (all (page_has_place d.places) d.pages && all (place_has_page d.pages) d.places) p1.1 in
    let p4 = both (apart same_pages d.pages) (apart same_places d.places) p3.0 in
    let p5 = both (all (page_has_place d.places) d.pages) (all (place_has_page d.pages) d.places) p3.1 in
    record {
      pages-lawful = p2.0;
      places-lawful = p2.1;
      fitting =
          record {
            fits =
                λ j. fits_by (find K (Option Table) j (map view_place d.places))
                (find K Page j (map view_page d.pages))
                (λ g. place-any j d.places
                ∙ each-key (λ (p : Page). is_used p.state) (λ (p : Page). p.key)
                (λ k. any (is_place_of k) d.places) d.pages p5.0 j
                (sym (page-any j d.pages) ∙ g))
                (λ e. page-any j d.pages
                ∙ each-key is_reserved (λ (q : Place). q.key) (λ k. any (is_page_of k) d.pages) d.places p5.1 j
                (find-reserved j d.places p2.1 e));
            lone-pages = pages-lone d.pages p4.0;
            lone-places = places-lone d.places p4.1;
          };
    }

pub sound-lawful : (d : Desk) → Sound d → lawful d ≡ true
unfolding lawful shelves
sound-lawful d s =
    and-true (all lawful_page d.pages && all lawful_place d.places)
    ((apart same_pages d.pages && apart same_places d.places) && (all (page_has_place d.places) d.pages
    && all (place_has_page d.pages) d.places))
    (and-true (all lawful_page d.pages) (all lawful_place d.places) s.pages-lawful s.places-lawful)
    (and-true (apart same_pages d.pages && apart same_places d.places) (all (page_has_place d.places) d.pages
    && all (place_has_page d.pages) d.places)
    (and-true (apart same_pages d.pages) (apart same_places d.places)
    (lone-pages d.pages s.fitting.lone-pages) (lone-places d.places s.fitting.lone-places))
    (and-true (all (page_has_place d.places) d.pages) (all (place_has_page d.pages) d.places)
    (key-each (λ (p : Page). is_used p.state) (λ (p : Page). p.key) (λ k. any (is_place_of k) d.places) d.pages
    (λ j e. sym (place-any j d.places) ∙ page-placed (find K (Option Table) j (map view_place d.places))
    (find K Page j (map view_page d.pages)) (s.fitting.fits j) (page-any j d.pages ∙ e)))
    (key-each is_reserved (λ (q : Place). q.key) (λ k. any (is_page_of k) d.pages) d.places
    (λ j e. sym (page-any j d.pages) ∙ reserved-paged (find K (Option Table) j (map view_place d.places))
    (find K Page j (map view_page d.pages)) (s.fitting.fits j)
    (reserved-find j d.places s.fitting.lone-places e)))))
