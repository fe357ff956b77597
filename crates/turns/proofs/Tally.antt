-- The places taken are the keys with a learned table and the keys that only reserve a place. Assumes nothing.
use mathlib.Core.Path.{◌≡◌, refl}
use mathlib.Core.Bool.{Bool, true, false}
use mathlib.Core.List.{List}
use Prim.Native.Nat.{ℕ, ◌+◌, ◌-◌, ◌≤◌}
use native.Mathlib.Omega.{arith}
use lib.ListN.{length}
use Rattle.ground.specs.Options.{given}
use Rattle.turns.specs.Service.{keys, Service, Keys}
use Rattle.turns.proofs.Office.{Cell, Office, service, laws_of}
use Rattle.turns.specs.Base.{one}
use Rattle.turns.proofs.CellDesk.{has_place, Desk, store, no_place}
use Rattle.turns.proofs.Base.{only_reserved, placed-sum, room-below, put-each, has, relist, has_one}
use Rattle.turns.proofs.Base.{relist-length, relist-self, relist-other}

num-count : (a l k gx gy rx ry px py : ℕ) → a ≡ l + k → px ≡ gx + rx → py ≡ gy + ry → gx ≤ l → rx ≤ k
    → a + py - px ≡ (l + gy - gx) + (k + ry - rx)
num-count a l k gx gy rx ry px py e f g h i = omega arith

module _ (O : Office) where
  open O use {Key, Table, Page, places}

  abbrev S : Service
  S = service O

  abbrev K : Keys
  K = keys S

  -- ls are the keys with a learned table, ks those that only reserve a place
  pub record Tally (d : Desk O) (ls ks : List Key) : Type 0 where
    pub count : d.places_taken ≡ length ls + length ks
    pub below : d.places_taken ≤ places
    pub learnt : (j : Key) → given (d.cells j).learned ≡ true → has K j ls ≡ true
    pub reserved : (j : Key) → only_reserved (d.cells j).learned (d.cells j).page ≡ true → has K j ks ≡ true

  abbrev pub learned_now : Desk O → Key → Cell Table Page → List Key → List Key
  learned_now d k y ls = relist K k (given (d.cells k).learned) (given y.learned) ls

  abbrev pub reserved_now : Desk O → Key → Cell Table Page → List Key → List Key
  reserved_now d k y ks =
      relist K k (only_reserved (d.cells k).learned (d.cells k).page) (only_reserved y.learned y.page) ks

  one_in : (k : Key) (b : Bool) (js : List Key) → (b ≡ true → has K k js ≡ true) → one b ≤ length js
  one_in k true js h = has_one K k js (h refl)
  one_in k false js h = omega arith

  pub tally-store : (d : Desk O) (k : Key) (y : Cell Table Page) (ls ks : List Key) → Tally d ls ks
      → no_place O d k y ≡ false → Tally (store O d k y) (learned_now d k y ls) (reserved_now d k y ks)
  unfolding store no_place
  tally-store d k y ls ks i n = record {
    count = rw (relist-length K k gx gy ls (i.learnt k), relist-length K k rx ry ks (i.reserved k))
        (num-count d.places_taken (length ls) (length ks) (one gx) (one gy) (one rx) (one ry)
        (one (has_place (d.cells k))) (one (has_place y)) i.count
        (placed-sum (d.cells k).learned (d.cells k).page) (placed-sum y.learned y.page)
        (one_in k gx ls (i.learnt k)) (one_in k rx ks (i.reserved k)));
    below = room-below (has_place (d.cells k)) (has_place y) places d.places_taken n i.below;
    learnt = put-each K (laws_of O) (λ j x. given x.learned ≡ true → has K j (relist K k gx gy ls) ≡ true) k y d.cells
        (relist-self K (laws_of O) k gx gy ls (i.learnt k)) (λ j f h. relist-other K (laws_of O) k j gx gy ls f (i.learnt j h));
    reserved = put-each K (laws_of O) (λ j x. only_reserved x.learned x.page ≡ true → has K j (relist K k rx ry ks) ≡ true) k
        y d.cells
        (relist-self K (laws_of O) k rx ry ks (i.reserved k)) (λ j f h. relist-other K (laws_of O) k j rx ry ks f (i.reserved j h));
  }
    where
      gx : Bool
      gx = given (d.cells k).learned

      gy : Bool
      gy = given y.learned

      rx : Bool
      rx = only_reserved (d.cells k).learned (d.cells k).page

      ry : Bool
      ry = only_reserved y.learned y.page
