-- Demand 2 of a read: it is told damaged, 10 or 15, exactly where no other test refuses it and no band of that width
-- and height would from that state have been written as those bytes; 15 where there is a marker besides. Assumes
-- nothing.
use mathlib.Core.Path.{◌≡◌, refl, sym, ap, ap₂, ◌∙◌, subst}
use mathlib.Core.Bool.{Bool, true, false, cond, not}
use mathlib.Core.Option.{Option, none}
use mathlib.Core.List.{List, [], ◌∷◌, ◌++◌}
use Prim.Native.Nat.{ℕ, zero, suc}
use lib.Dec.{eqb}
use Rattle.ground.proofs.Bools.{no_way, both, not-false}
use Rattle.ground.specs.Options.{given}
use Rattle.ground.proofs.Options.{none-given}
use Rattle.band.specs.Band.{Right}
use Rattle.marker.specs.Marker.{marked}
use Rattle.marker.proofs.Never.{marked-damaged}
use Rattle.unique.specs.BandOfCode.{band_of_code}
use Rattle.unique.proofs.OneReader.{right-found}
use Rattle.desk.specs.declared.Ask.{Ask}
use Rattle.desk.specs.Desk.{Page, Desk, Outcome}
use Rattle.desk.specs.Refusals.{Row, row, refusal, damage, is_damage}
use Rattle.desk.specs.Calls.{reads}
use Rattle.desk.specs.Standing.{page_of, stand}
use Rattle.desk.specs.Tests.{found_in, tests}
use Rattle.desk.specs.Allowed.{Allowed}
use Rattle.desk.proofs.Passed.{numbered}
use Rattle.demands.proofs.Demand1.{answers}
use Rattle.demands.specs.Damaged.{others, otherwise, Unwritten}

-- the other tests never say "damaged"
others-other : (rs : List Row) → is_damage (refusal (others rs)) ≡ false
unfolding others refusal
others-other [] = refl
others-other (r ∷ rs) = go (is_damage r.number) refl (others-other rs)
  where
    held : (b : Bool) → is_damage r.number ≡ false → is_damage (refusal (others rs)) ≡ false
        → is_damage (cond b r.number (refusal (others rs))) ≡ false
    held true f ih = f
    held false f ih = ih

    go : (b : Bool) → is_damage r.number ≡ b → is_damage (refusal (others rs)) ≡ false
        → is_damage (refusal (cond b (others rs) (r ∷ others rs))) ≡ false
    go true f ih = ih
    go false f ih = held r.holds f ih

-- the number of tests that come after the others
abbrev lastly : ℕ → ℕ → ℕ
lastly zero m = m
lastly (suc n) m = suc n

two-parts : (rs ts : List Row) → numbered rs ≡ true → refusal (rs ++ ts) ≡ lastly (refusal rs) (refusal ts)
unfolding refusal
two-parts [] ts h = refl
two-parts (r ∷ rs) ts h =
    let k = both (not (eqb r.number 0)) (numbered rs) h in
    go r.holds r.number k.0 (two-parts rs ts k.1)
  where
    go : (b : Bool) (n : ℕ) → not (eqb n 0) ≡ true → refusal (rs ++ ts) ≡ lastly (refusal rs) (refusal ts)
        → cond b n (refusal (rs ++ ts)) ≡ lastly (cond b n (refusal rs)) (refusal ts)
    go true zero h ih = no_way (sym h)
    go true (suc n) h ih = refl
    go false n h ih = ih

-- the last two tests of a read
abbrev last_two : Bool → Bool → ℕ
last_two m x = cond m 15 (cond x 10 0)

-- where they say "damaged", after others that do not
says : (n : ℕ) (m x : Bool) → is_damage n ≡ false → is_damage (lastly n (last_two m x)) ≡ true → (n ≡ 0)
    × (lastly n (last_two m x) ≡ damage m)
    × (m ≡ false → x ≡ true)
says zero true x h e = (refl, refl, λ z. no_way z)
says zero false true h e = (refl, refl, λ z. refl)
says zero false false h e = no_way (sym e)
says (suc n) m x h e = no_way (sym e ∙ h)

module _ (d : Desk) (ask : Ask) (code out : List ℕ) where
  module _ (r : Outcome) (after : List ℕ) (a : Allowed d (reads ask code out) r after) where
    abbrev p : Page
    p = page_of (stand d ask.key)

    abbrev found : Option (List ℕ)
    found = found_in a.reader.finds p ask.rows code

    number_is : r.answer.number ≡ lastly (otherwise d ask code out) (last_two (marked code) (not (given found)))
    unfolding tests others refusal
    number_is = answers d (reads ask code out) r after a
        ∙ two-parts (others (tests band_of_code (reads ask code out) (stand d ask.key)))
        (row 15 (marked code) ∷ row 10 (not (given found)) ∷ []) refl

    -- with a marker, or where nothing was found
    unwritten : (m : Bool) → marked code ≡ m → (m ≡ false → not (given found) ≡ true) → Unwritten d ask code out
    unfolding found_in
    unwritten true e h = marked-damaged p.width ask.rows p.table.entries p.last code e
    unwritten false e h =
        subst (Right p.width ask.rows p.table.entries p.last code)
        (none-given found (not-false (given found) (h refl)))
        (a.reader.right p.width ask.rows p.table.entries p.last code)

    -- a read that is told damaged passes its other tests, and no band of that size would have been written so; it is
    -- told 15 where there is a marker, 10 where there is none
    pub damaged : is_damage r.answer.number ≡ true → (otherwise d ask code out ≡ 0)
        × Unwritten d ask code out
        × (r.answer.number ≡ damage (marked code))
    damaged e =
        let t = says (otherwise d ask code out) (marked code) (not (given found)) (others-other _)
        (sym (ap is_damage number_is) ∙ e) in
        (t.0, unwritten (marked code) refl t.2, number_is ∙ t.1)

    -- a read that passes its other tests is told damaged where no band of that size would have been written so
    pub only_then : otherwise d ask code out ≡ 0 → Unwritten d ask code out → r.answer.number ≡ damage (marked code)
    unfolding found_in
    only_then e u =
        let f : found ≡ none
        = right-found p.width ask.rows p.table.entries p.last code found
        (a.reader.right p.width ask.rows p.table.entries
        p.last code)
        ∙ sym (right-found p.width ask.rows p.table.entries p.last code none u) in
        number_is ∙ ap₂ (λ (n : ℕ) (o : Option (List ℕ)). lastly n (last_two (marked code) (not (given o)))) e f

    -- a marker is enough: no band of any size would have been written so
    pub marker-told : otherwise d ask code out ≡ 0 → marked code ≡ true → r.answer.number ≡ 15
    marker-told e m =
        only_then e (marked-damaged p.width ask.rows p.table.entries p.last code m)
        ∙ ap damage m
