-- On a lawful desk, each call is what it does under its key alone: every call answers as the same call on the slots.
-- Assumes nothing.
use mathlib.Core.Path.{◌≡◌, refl, sym, ap, ◌∙◌, subst}
use mathlib.Core.Bool.{Bool, true, false}
use Prim.Native.Nat.{ℕ, zero, suc}
use native.Mathlib.Omega.{arith}
use borrow.Author.Tests.{ne_eqb}
use Rattle.turns.specs.Service.{refused}
use Rattle.turns.proofs.Shelves.{no_slot, no_class_place}
use Rattle.turns.proofs.SlotDesk.{SlotOutcome, slot_step, slot_settle, slot_admit}
use Rattle.estimate.specs.declared.Table.{Table}
use Rattle.band.specs.Band.{Reader}
use Rattle.desk.specs.declared.Key.{Key}
use Rattle.desk.specs.Desk.{Page, Desk}
use Rattle.desk.specs.Lawful.{lawful}
use Rattle.desk.specs.Refusals.{refusal}
use Rattle.desk.specs.Calls.{Call, key_of, lent_to}
use Rattle.desk.specs.Standing.{stand}
use Rattle.desk.specs.Tests.{tests}
use Rattle.desk.specs.Effects.{Effect, effect}
use Rattle.desk.specs.Changes.{changed}
use Rattle.desk.specs.Allowed.{done, unless, unless_lent, number, effect_on, outcome, lent}
use Rattle.kept.proofs.View.{K, shelves}
use Rattle.kept.proofs.Sound.{Sound, lawful-sound}
use Rattle.kept.proofs.Cells.{cell_of}
use Rattle.kept.proofs.Stored.{cell_after}
use Rattle.kept.proofs.Room.{roomy, with_room, ForRoom}
use Rattle.kept.proofs.Law.{CallLaw, law}
use Rattle.kept.proofs.Kept.{under-is, sound-is, slot-wanted, place-wanted, call-stored}
use Rattle.serial.specs.Run.{Step, step_of, mark_of, step}
use Rattle.serial.proofs.Office.{DeskCell, meets, doing, decide, act, bureau}

mark-refused : (n : ℕ) → ForRoom (suc n) ≡ false → mark_of (suc n) ≡ refused
unfolding mark_of
mark-refused n h = rw (ne_eqb (suc n) 0 (λ e. absurd (omega arith)), h)

-- a step and an outcome on the slots that answer the same, and leave the same slots
module _ (R : Reader) where
  pub record Alike (r : Step) (b : SlotOutcome (bureau R)) : Type 0 where
    pub mark : mark_of r.answer.number ≡ b.mark
    pub output : record { answer = r.answer; lent = r.lent } ≡ b.output
    pub desk : shelves r.desk ≡ b.desk

  module _ (d : Desk) (h : lawful d ≡ true) (c : Call) where
    abbrev k : Key
    k = key_of c

    abbrev e : Effect
    e = effect_on R.finds d c

    abbrev y : DeskCell
    y = cell_after (cell_of d k) e.page e.learned

    s : Sound d
    s = lawful-sound d h

    l : CallLaw R c (stand d k)
    l = law R c (stand d k)

    -- its number but for the room
    abbrev n₀ : ℕ
    n₀ = refusal (tests R.finds c (roomy (stand d k)))

    act-is : act R c (cell_of d k) ≡ decide n₀ c (doing e) y
    unfolding act
    act-is =
        ap (λ (u : DeskCell). decide (refusal (tests R.finds c (meets u))) c (doing (effect R.finds c (meets u)))
        (cell_after (cell_of d k)
        (effect R.finds c (meets u)).page (effect R.finds c (meets u)).learned)) (sym (under-is d s k))
        ∙ ap (λ (f : Effect). decide n₀ c (doing f) (cell_after (cell_of d k) f.page f.learned)) l.same

    -- and with the room
    number_is : number R.finds d c ≡ with_room n₀ (no_slot K Table Page (shelves d) k y)
        (no_class_place K Table Page (shelves d) k y)
    unfolding number
    number_is = rw (slot-wanted d s k e.page e.learned, place-wanted d s k e.page e.learned)
        (l.last (sound-is d k ∙ h))

    by_number : (m : ℕ) → number R.finds d c ≡ m
        → step R d c ≡ step_of (unless m d (done e (changed d k e.page e.learned)))
        (unless_lent m (lent_to c) e.lent)
    unfolding outcome lent
    by_number m f = rw f

    pub alike : Alike (step R d c) (slot_step (bureau R) (shelves d) c)
    unfolding slot_step slot_settle slot_admit decide mark_of
    alike = go n₀ refl (no_slot K Table Page (shelves d) k y) refl (no_class_place K Table Page (shelves d) k y) refl
      where
        numbered : (m : ℕ) (p q : Bool) → n₀ ≡ m → no_slot K Table Page (shelves d) k y ≡ p → no_class_place K Table Page
            (shelves d) k y ≡ q → number
            R.finds d c ≡ with_room m p q
        numbered m p q a f g = number_is ∙ rw (a, f, g)

        go : (m : ℕ) → n₀ ≡ m → (p : Bool) → no_slot K Table Page (shelves d) k y ≡ p → (q : Bool)
            → no_class_place K Table Page (shelves d) k y ≡ q
            → Alike (step R d c) (slot_step (bureau R) (shelves d) c)
        go (suc m) a p f q g =
            rw (by_number (suc m) (numbered (suc m) p q a f g), act-is, a)
            (record {
              mark = mark-refused m (subst (λ (n : ℕ). ForRoom n ≡ false) a l.other);
              output = refl;
              desk = refl;
            })
        go zero a true f q g = rw (by_number 4 (numbered 0 true q a f g), act-is, a, f)
            (record { mark = refl; output = refl; desk = refl })
        go zero a false f true g = rw (by_number 5 (numbered 0 false true a f g), act-is, a, f, g)
            (record { mark = refl; output = refl; desk = refl })
        go zero a false f false g =
            let z : number R.finds d c ≡ 0 = numbered 0 false false a f g in
            rw (by_number 0 z, act-is, a, f, g)
            (record { mark = refl; output = refl; desk = (call-stored R d h c z).shelved })
