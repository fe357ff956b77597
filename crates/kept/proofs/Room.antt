-- 4 and 5 come last: which page or place is taken anew, and the number that it gives where none is free. Assumes
-- nothing.
use mathlib.Core.Path.{◌≡◌, refl, ap}
use mathlib.Core.Bool.{Bool, true, false, cond, not, ◌&&◌, ◌||◌}
use mathlib.Core.List.{List, [], ◌∷◌}
use mathlib.Core.Option.{Option, some, none}
use Prim.Native.Nat.{ℕ, zero, suc}
use lib.Dec.{eqb}
use Rattle.ground.proofs.Bools.{no_way, both}
use Rattle.ground.specs.Options.{given}
use Rattle.turns.proofs.Shelves.{place_of}
use Rattle.estimate.specs.declared.Table.{Table}
use Rattle.desk.specs.Desk.{Page}
use Rattle.desk.specs.Refusals.{Row, refusal}
use Rattle.desk.specs.Standing.{Stand}
use Rattle.desk.specs.Effects.{stays, gone, Effect, does, afterwards}

-- a lawful desk with room for any page and place
abbrev pub roomy : Stand → Stand
roomy s = record { sound = true; page = s.page; learned = s.learned; page_free = true; place_free = true }

-- the page, the place that is taken anew
abbrev pub page_wanted : Stand → Effect → Bool
page_wanted s e = not (given s.page) && given (afterwards s.page e.page)

abbrev pub place_wanted : Stand → Effect → Bool
place_wanted s e = not (given (place_of s.learned s.page)) && given (place_of (afterwards s.learned e.learned)
    (afterwards s.page
    e.page))

-- a call's other number, and after it the room: 4, then 5
abbrev pub with_room : ℕ → Bool → Bool → ℕ
with_room zero p q = cond p 4 (cond q 5 0)
with_room (suc n) p q = suc n

-- a number that is no refusal for want of room
abbrev pub ForRoom : ℕ → Bool
ForRoom n = eqb n 4 || eqb n 5

abbrev pub quiet : List Row → Bool
quiet [] = true
quiet (r ∷ rs) = not (ForRoom r.number && r.holds) && quiet rs

pub quiet-number : (rs : List Row) → quiet rs ≡ true → ForRoom (refusal rs) ≡ false
unfolding refusal
quiet-number [] h = refl
quiet-number (r ∷ rs) h = go (ForRoom r.number) r.holds refl (both (not (ForRoom r.number && r.holds))
    (quiet rs) h).0 (quiet-number rs
    (both (not (ForRoom r.number && r.holds)) (quiet rs) h).1)
  where
    go : (a b : Bool) → ForRoom r.number ≡ a → not (a && b) ≡ true → ForRoom (refusal rs) ≡ false
        → ForRoom (cond b r.number (refusal rs))
        ≡ false
    go true true e n ih = no_way (ap not n)
    go false true e n ih = e
    go a false e n ih = ih

-- nothing is taken anew
abbrev pub Unwanted : Stand → Effect → Type 0
Unwanted s e = ((page_wanted s e && not s.page_free) ≡ false) × ((place_wanted s e && not s.place_free) ≡ false)

-- a page that is open stays or goes
pub open-wants : (s : Stand) (e : Effect) → not (given s.page) ≡ false → Unwanted s e
open-wants s e h = go s.page s.learned h
  where
    go : (p : Option Page) (t : Option Table) → not (given p) ≡ false
        → (((not (given p) && given (afterwards p e.page)) && not s.page_free) ≡ false)
        × (((not (given (place_of t p)) && given (place_of (afterwards t e.learned) (afterwards p e.page)))
        && not s.place_free) ≡ false)
    go none t h = no_way h
    go (some p) none h = (refl, refl)
    go (some p) (some t) h = (refl, refl)

-- no page is open, and none is opened; the table goes
pub drop-wants : (s : Stand) → given s.page ≡ false → Unwanted s (does stays gone)
drop-wants s h = go s.page s.learned h
  where
    go : (p : Option Page) (t : Option Table) → given p ≡ false
        → (((not (given p) && given p) && not s.page_free) ≡ false)
        × (((not (given (place_of t p)) && given (place_of {T = Table} none p)) && not
        s.place_free) ≡ false)
    go none none h = (refl, refl)
    go none (some t) h = (refl, refl)
    go (some p) t h = no_way h

-- nothing changes
pub look-wants : (s : Stand) (e : Effect) → e.page ≡ stays → e.learned ≡ stays → Unwanted s e
look-wants s e p q = rw (p, q) (
  never (given s.page) (not s.page_free),
  never
      (given (place_of s.learned s.page)) (not s.place_free),
)
  where
    never : (a b : Bool) → ((not a && a) && b) ≡ false
    never true b = refl
    never false b = refl

-- the tests of an open: 4 and 5 after the others
pub opens-last : (a b : Bool) (p : Option Page) (t : Option Table) (f g : Bool) (new : Page)
    → cond a 1 (cond b 6 (cond (given p) 3 (cond (not f) 4 (cond (not (given t) && not g) 5 0))))
    ≡ with_room (cond a 1 (cond b 6 (cond (given p) 3 (cond (not (given t) && false) 5 0))))
    ((not (given p) && true) && not f)
    ((not (given (place_of t p)) && given (place_of t (some new))) && not g)
opens-last true b p t f g new = refl
opens-last false true p t f g new = refl
opens-last false false (some p) t f g new = refl
opens-last false false none none f g new = refl
opens-last false false none (some t) f g new = refl
