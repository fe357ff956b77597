-- What every call keeps: a lawful desk stays lawful; other keys see no change; a band shows in no look. Assumes
-- nothing.
use mathlib.Core.Path.{◌≡◌, refl, sym, ap, ◌∙◌, subst}
use mathlib.Core.Bool.{Bool, true, false, not, ◌&&◌}
use mathlib.Core.List.{List}
use mathlib.Core.Option.{Option}
use Prim.Native.Nat.{ℕ, zero, suc}
use native.Mathlib.Omega.{arith}
use Rattle.ground.specs.Options.{given}
use Rattle.turns.specs.Service.{Kind, band}
use Rattle.turns.proofs.Office.{Cell}
use Rattle.turns.proofs.Shelves.{place_of, cell_at, no_slot, no_class_place, own-cell}
use Rattle.estimate.specs.declared.Table.{Table}
use Rattle.band.specs.Band.{white, Reader}
use Rattle.desk.specs.declared.Key.{Key}
use Rattle.desk.specs.Desk.{Page, Desk, Outcome}
use Rattle.desk.specs.Places.{zero_table, unused_page, free_place, empty_desk, same_key, free_page_found, free_place_found}
use Rattle.desk.specs.Places.{is_found}
use Rattle.desk.specs.Lawful.{all, any, apart, lawful_page, lawful_place, lawful}
use Rattle.desk.proofs.OpenPages.{key-only}
use Rattle.desk.specs.Refusals.{refusal}
use Rattle.desk.specs.Calls.{Call, looks, key_of, kind_of}
use Rattle.desk.specs.Standing.{open_page, learned_table, stand}
use Rattle.desk.specs.Tests.{tests}
use Rattle.desk.specs.Effects.{Change, stays, Effect, effect, afterwards}
use Rattle.desk.specs.Changes.{changed}
use Rattle.desk.specs.Allowed.{done, unless, number, effect_on, outcome, lent}
use Rattle.desk.proofs.KindLaws.{KindLaw, kind-law}
use Rattle.kept.proofs.View.{K, key_laws, shelves, Shelf}
use Rattle.kept.proofs.Sound.{Sound, lawful-sound, sound-lawful}
use Rattle.kept.proofs.Cells.{cell_of, page-is, learned-is}
use Rattle.kept.proofs.ChangesKept.{slot-room, place-room}
use Rattle.kept.proofs.Stored.{Stored, stored-sound, stored-others, cell_after, changed-stored, Clean}
use Rattle.kept.proofs.Fair.{under, owned, Fair}
use Rattle.kept.proofs.Room.{roomy, page_wanted, place_wanted, with_room}
use Rattle.kept.proofs.Law.{CallLaw, law}
use Rattle.kept.specs.Kept.{Keeps, SameFor}

-- the empty desk is lawful
pub empty-lawful : lawful empty_desk ≡ true
unfolding lawful empty_desk unused_page free_place zero_table white all any apart lawful_page lawful_place
empty-lawful = refl

-- what a call meets is what stands under its key
pub under-is : (d : Desk) → Sound d → (k : Key) → under (stand d k) ≡ cell_of d k
unfolding stand
under-is d s k = λ i. record { learned = learned-is d s k i; page = page-is d s k i }

pub sound-is : (d : Desk) (k : Key) → (stand d k).sound ≡ lawful d
unfolding stand
sound-is d k = refl

-- the room that is wanted
pub slot-wanted : (d : Desk) (s : Sound d) (k : Key) (p : Change Page) (t : Change Table)
    → no_slot K Table Page (shelves d) k (cell_after (cell_of d k) p t)
    ≡ ((not (given (stand d k).page) && given (afterwards
    (stand d k).page p)) && not (stand d k).page_free)
unfolding stand
slot-wanted d s k p t = slot-room d s k (cell_after (cell_of d k) p t)
    ∙ ap (λ (o : Option Page). (not (given o) && given (afterwards o p)) && not
    (is_found (free_page_found d))) (sym (page-is d s k))

pub place-wanted : (d : Desk) (s : Sound d) (k : Key) (p : Change Page) (t : Change Table)
    → no_class_place K Table Page (shelves d) k (cell_after (cell_of d k) p t)
    ≡ ((not (given (place_of (stand d k).learned (stand d k).page))
    && given (place_of (afterwards (stand d k).learned t) (afterwards
    (stand d k).page p))) && not (stand d k).place_free)
unfolding stand
place-wanted d s k p t =
    place-room d s k (cell_after (cell_of d k) p t)
    ∙ ap (λ (x : Cell Table Page). (not (given (place_of x.learned x.page))
    && given (place_of (afterwards x.learned t) (afterwards
    x.page p))) && not (is_found (free_place_found d))) (sym (under-is d s k))

keeps_same : (k : Key) (d : Desk) → lawful d ≡ true → Keeps k d d
keeps_same k d h = record { stays_lawful = h; others_same = λ j n. record { page = refl; table = refl } }

keeps-stored : (d d' : Desk) (k : Key) (y : Cell Table Page) → Sound d → Stored d d' k y → Keeps k d d'
keeps-stored d d' k y s c =
    let s' : Sound d' = stored-sound d d' k y s c in
    record { stays_lawful = sound-lawful d' s'; others_same = λ j n. by-cell j s' (stored-others d d' k y s c j n) }
  where
    by-cell : (j : Key) → Sound d' → cell_of d' j ≡ cell_of d j → SameFor j d d'
    by-cell j s' e =
        record {
          page = page-is d' s' j ∙ ap (λ (x : Cell Table Page). x.page) e ∙ sym (page-is d s j);
          table = learned-is d' s' j ∙ ap (λ (x : Cell Table Page). x.learned) e ∙ sym (learned-is d s j);
        }

by_number : (P : Desk → Type 0) (n : ℕ) (d : Desk) (o : Outcome) → P d → (n ≡ 0 → P o.desk) → P (unless n d o).desk
by_number P zero d o p q = q refl
by_number P (suc n) d o p q = p

-- the number 0 is that of a call that is not refused otherwise, and for which there is room
pub record Roomed (n : ℕ) (p q : Bool) : Type 0 where
  pub rest : n ≡ 0
  pub page : p ≡ false
  pub place : q ≡ false

roomed : (n : ℕ) (p q : Bool) → with_room n p q ≡ 0 → Roomed n p q
roomed zero true q e = absurd (omega arith)
roomed zero false true e = absurd (omega arith)
roomed zero false false e = record { rest = refl; page = refl; place = refl }
roomed (suc n) p q e = absurd (omega arith)

module _ (R : Reader) (d : Desk) (h : lawful d ≡ true) (c : Call) where
  -- the call's key
  abbrev k : Key
  k = key_of c

  -- what the call does, where it is accepted
  abbrev e : Effect
  e = effect_on R.finds d c

  s : Sound d
  s = lawful-sound d h

  -- an accepted call stores one cell
  pub call-stored : number R.finds d c ≡ 0 → Stored d (changed d k e.page e.learned) k
      (cell_after (cell_of d k) e.page e.learned)
  unfolding number
  call-stored z =
      let l : CallLaw R c (stand d k) = law R c (stand d k) in
      let f : Fair k (stand d k) e = l.fair (owned d s k) z in
      let m = roomed (refusal (tests R.finds c (roomy (stand d k)))) (page_wanted (stand d k) e
      && not (stand d k).page_free) (place_wanted
      (stand d k) e && not (stand d k).place_free) (sym (l.last (sound-is d k ∙ h)) ∙ z) in
      changed-stored d s k f.known e.page e.learned
      (subst (λ (x : Cell Table Page). Clean x e.page e.learned) (under-is d s k)
      f.clean) f.page f.table
      (slot-wanted d s k e.page e.learned ∙ m.page) (place-wanted d s k e.page e.learned ∙ m.place)

  -- after an accepted call the key's page and its class's learned table are what the call made of them
  pub call-leaves : number R.finds d c ≡ 0
      → (open_page (outcome R.finds d c).desk (key_of c)
      ≡ afterwards (open_page d (key_of c)) (effect_on R.finds d c).page)
      × (learned_table (outcome R.finds d c).desk (key_of c)
      ≡ afterwards (learned_table d (key_of c)) (effect_on R.finds d c).learned)
  unfolding outcome
  call-leaves z = rw z (left z)
    where
      left : number R.finds d c ≡ 0 → (open_page (changed d k e.page e.learned) k ≡ afterwards (open_page d k)
          e.page)
          × (learned_table (changed d k e.page e.learned) k ≡ afterwards (learned_table d k) e.learned)
      left z =
          let c' = call-stored z in
          let s' : Sound (changed d k e.page e.learned) = stored-sound d (changed d k e.page e.learned)
          k _ s c' in
          let q : cell_of (changed d k e.page e.learned) k ≡ cell_after (cell_of d k) e.page e.learned
          = ap (λ (z : Shelf). cell_at K Table Page z k) c'.shelved
          ∙ sym (own-cell K Table Page key_laws (shelves d) s.fitting k (cell_after (cell_of d k) e.page e.learned)
          c'.page-room
          c'.place-room) in (
            page-is (changed d k e.page e.learned) s' k ∙ ap (λ (x : Cell Table Page). x.page) q
                ∙ ap (λ (o : Option Page). afterwards o
                e.page) (sym (page-is d s k)),
            learned-is (changed d k e.page e.learned) s' k ∙ ap (λ (x : Cell Table Page). x.learned) q ∙ ap (λ
                (o : Option Table). afterwards o e.learned) (sym (learned-is d s k)),
          )

  -- every call keeps a lawful desk lawful, and other keys see no change
  pub call-keeps : Keeps (key_of c) d (outcome R.finds d c).desk
  unfolding outcome
  call-keeps =
      by_number (Keeps k d) (number R.finds d c) d
      (done e (changed d k e.page e.learned)) (keeps_same k d h)
      (λ z. keeps-stored d (changed d k e.page e.learned) k _ s (call-stored z))

  -- every call keeps a lawful desk lawful
  pub call-lawful : lawful (outcome R.finds d c).desk ≡ true
  call-lawful = call-keeps.stays_lawful

-- While a page is open a look still shows the old table: a band changes no learned table, and a look shows nothing
-- else.
module _ (R : Reader) (d : Desk) (h : lawful d ≡ true) (c : Call) where
  -- a band changes no learned table
  pub band-tables : kind_of c ≡ band → (j : Key) → learned_table (outcome R.finds d c).desk j ≡ learned_table d j
  unfolding KindLaw outcome
  band-tables q j = go (same_key (key_of c) j) refl
    where
      stayed : KindLaw R.finds (kind_of c) c (stand d (key_of c)) → (effect_on R.finds d c).learned ≡ stays
      stayed l = (subst (λ (κ : Kind). KindLaw R.finds κ c (stand d (key_of c))) q l).2

      own : (n : ℕ) → number R.finds d c ≡ n → learned_table (outcome R.finds d c).desk (key_of c) ≡ learned_table
          d (key_of c)
      own zero z = (call-leaves R d h c z).1 ∙ ap (afterwards (learned_table d (key_of c)))
          (stayed (kind-law R.finds c (stand d (key_of c))))
      own (suc n) z = rw z

      go : (b : Bool) → same_key (key_of c) j ≡ b → learned_table (outcome R.finds d c).desk j ≡ learned_table d j
      go true e = subst (λ (i : Key). learned_table (outcome R.finds d c).desk i ≡ learned_table d i)
          (key-only (key_of c) j e) (own (number
          R.finds d c) refl)
      go false e = ((call-keeps R d h c).others_same j e).table

  -- While a page is open a look still shows the old table: after a band it leaves in its buffer what it left before it.
  pub band-looks : kind_of c ≡ band → (j : Key) (out : List ℕ)
      → lent R.finds (outcome R.finds d c).desk (looks j out) ≡ lent R.finds d (looks j out)
  unfolding lent number stand tests effect
  band-looks q j out = rw (call-lawful R d h c, h, band-tables q j)
