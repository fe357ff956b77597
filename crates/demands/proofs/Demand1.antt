-- Demand 1 of the calls: each ends with its result or with the refusal that the table gives; a refused call changes
-- nothing, and leaves the lent output alone but for "no room" and "damaged", which set all of it to zero. Assumes
-- nothing.
use mathlib.Core.Path.{◌≡◌, refl, sym, ap, ◌∙◌, subst}
use mathlib.Core.Logic.{◌≢◌, ◌⊎◌, inl, inr}
use mathlib.Core.Bool.{Bool, true, false, cond, ◌||◌}
use mathlib.Core.List.{List, [], ◌∷◌}
use Prim.Native.Nat.{ℕ, zero, suc}
use lib.Dec.{eqb, ltb}
use lib.ListN.{get_or, length, replicate, length-replicate}
use Rattle.ground.proofs.Bools.{no_way, both}
use Rattle.store.specs.Store.{cleared}
use Rattle.desk.specs.Desk.{Desk, Outcome}
use Rattle.desk.specs.Refusals.{Row, refusal, order, from, in_order, zeroing, lent_after}
use Rattle.desk.specs.Calls.{Call, key_of, lent_to}
use Rattle.desk.specs.Standing.{stand}
use Rattle.desk.specs.Tests.{tests}
use Rattle.desk.proofs.Tests.{in_order_lem}
use Rattle.desk.specs.Effects.{Effect}
use Rattle.desk.specs.Changes.{changed}
use Rattle.kept.proofs.BandsKept.{zero-get}
use Rattle.desk.specs.Allowed.{done, unless, unless_lent, number, effect_on, outcome, lent, Allowed}
use Rattle.demands.specs.Demand1.{is_in, Refused}

from_in : (n : ℕ) (ms : List ℕ) → ltb 0 (length (from n ms)) ≡ true → is_in n ms ≡ true
unfolding from is_in
from_in n [] h = no_way (sym h)
from_in n (m ∷ ms) h = go (eqb n m) h (from_in n ms)
  where
    go : (b : Bool) → ltb 0 (length (cond b (m ∷ ms) (from n ms))) ≡ true → (ltb 0 (length (from n ms)) ≡ true
        → is_in n ms ≡ true) →
        (b || is_in n ms) ≡ true
    go true h ih = refl
    go false h ih = ih h

in-from : (n k : ℕ) (ms : List ℕ) → is_in k (from n ms) ≡ true → is_in k ms ≡ true
unfolding from is_in
in-from n k [] h = h
in-from n k (m ∷ ms) h = go (eqb n m) h (in-from n k ms)
  where
    later : (b : Bool) → is_in k ms ≡ true → (b || is_in k ms) ≡ true
    later true e = refl
    later false e = e

    go : (b : Bool) → is_in k (cond b (m ∷ ms) (from n ms)) ≡ true → (is_in k (from n ms) ≡ true → is_in k ms ≡ true)
        → (eqb k m || is_in k ms) ≡ true
    go true h ih = h
    go false h ih = later (eqb k m) (ih h)

-- the first test that holds gives a number of the order in which the tests stand
numbered : (rs : List Row) (ns : List ℕ) → in_order rs ns ≡ true → (refusal rs ≡ 0) ⊎ (is_in (refusal rs) ns ≡ true)
unfolding refusal in_order
numbered [] ns h = inl refl
numbered (r ∷ rs) ns h =
    let k = both (ltb 0 (length (from r.number ns))) (in_order rs (from r.number ns)) h in
    go r.holds (from_in r.number ns k.0) (numbered rs (from r.number ns) k.1)
  where
    go : (b : Bool) → is_in r.number ns ≡ true → (refusal rs ≡ 0) ⊎ (is_in (refusal rs) (from r.number ns) ≡ true)
        → (cond b r.number (refusal rs) ≡ 0) ⊎ (is_in (cond b r.number (refusal rs)) ns ≡ true)
    go true i ih = inr i
    go false i (inl e) = inl e
    go false i (inr e) = inr (in-from r.number (refusal rs) ns e)

unless-number : (n : ℕ) (d : Desk) (o : Outcome) → o.answer.number ≡ 0 → (unless n d o).answer.number ≡ n
unless-number zero d o e = e
unless-number (suc n) d o e = refl

module _ (d : Desk) (c : Call) (r : Outcome) (after : List ℕ) (p : Allowed d c r after) where
  -- the number that is answered is that of the first test that holds, 0 where none does
  pub answers : r.answer.number ≡ refusal (tests p.reader.finds c (stand d (key_of c)))
  unfolding number outcome
  answers = ap (λ (o : Outcome). o.answer.number) p.outcome ∙ unless-number
      (refusal (tests p.reader.finds c (stand d (key_of c)))) d _ refl

  -- that number is 0 or stands in the table
  pub in_table : (r.answer.number ≡ 0) ⊎ (is_in r.answer.number order ≡ true)
  in_table = rw answers (numbered (tests p.reader.finds c (stand d (key_of c))) order
      (in_order_lem p.reader.finds c (stand d (key_of c))))

  -- A refused call changes no table and no open page.
  pub refused : r.answer.number ≢ 0 → Refused d c r after
  unfolding outcome lent number
  refused h = go (number p.reader.finds d c) p.outcome p.lent
    where
      o : Outcome
      o = done (effect_on p.reader.finds d c)
          (changed d (key_of c) (effect_on p.reader.finds d c).page (effect_on p.reader.finds d c).learned)

      go : (n : ℕ) → r ≡ unless n d o → after ≡ unless_lent n (lent_to c) (effect_on p.reader.finds d c).lent
          → Refused d c r after
      go zero e l = absurd (h (ap (λ (o : Outcome). o.answer.number) e))
      go (suc n) e l =
          record {
            length = ap (λ (o : Outcome). o.answer.length) e;
            shifts = ap (λ (o : Outcome). o.answer.shifts) e;
            revisits = ap (λ (o : Outcome). o.answer.revisits) e;
            desk = ap (λ (o : Outcome). o.desk) e;
            lent = l ∙ ap (λ (m : ℕ). lent_after m (lent_to c)) (sym (ap (λ (o : Outcome). o.answer.number) e));
          }

  -- It leaves the lent output alone as well, but for "no room" and "damaged": 9, 15 and 10.
  pub alone : r.answer.number ≢ 0 → zeroing r.answer.number ≡ false → after ≡ lent_to c
  unfolding lent_after
  alone h z = (refused h).lent ∙ rw z

  -- these set all of the lent output to zero
  pub all-zero : zeroing r.answer.number ≡ true → (length after ≡ length (lent_to c))
      × ((i : ℕ) → get_or after i 0 ≡ 0)
  unfolding lent_after cleared
  all-zero e =
      subst (λ (l : List ℕ). (length l ≡ length (lent_to c)) × ((i : ℕ) → get_or l i 0 ≡ 0)) (sym cleared-is)
      (length-replicate (length (lent_to c)) 0, zero-get (length (lent_to c)))
    where
      cleared-is : after ≡ replicate (length (lent_to c)) 0
      cleared-is = (refused (λ z. no_way (sym e ∙ ap zeroing z))).lent ∙ rw e

  -- a call that no test refuses answers and does what its effect says
  pub accepted : (e : Effect) → number p.reader.finds d c ≡ 0 → effect_on p.reader.finds d c ≡ e
      → (r ≡ done e (changed d (key_of c) e.page e.learned)) × (after ≡ e.lent)
  unfolding outcome lent
  accepted e z i = (
    p.outcome ∙ ap (λ (n : ℕ). unless n d (on (effect_on p.reader.finds d c))) z ∙ ap on i,
    p.lent ∙ ap (λ (n : ℕ). unless_lent n (lent_to c) (effect_on p.reader.finds d c).lent) z
        ∙ ap (λ (f : Effect). f.lent) i,
  )
    where
      on : Effect → Outcome
      on f = done f (changed d (key_of c) f.page f.learned)
