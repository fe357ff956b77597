-- A run at the desk, beside the same run on the slots; every desk that a run from the empty desk comes to is lawful.
-- Assumes nothing.
use mathlib.Core.Path.{◌≡◌, refl, ap, ◌∙◌}
use mathlib.Core.Bool.{Bool, true, false, cond, ◌||◌}
use mathlib.Core.List.{List, [], ◌∷◌}
use Prim.Native.Nat.{ℕ}
use native.Mathlib.Omega.{arith}
use lib.Dec.{eqb}
use borrow.Author.Tests.{eqb-true}
use Rattle.turns.specs.Service.{accepted, refused, crowded}
use Rattle.turns.proofs.Accepted.{AllAccepted}
use Rattle.turns.proofs.Shelves.{frees}
use Rattle.turns.proofs.SlotDesk.{Slotted, slot_step, slot_run, slot_after}
use Rattle.turns.proofs.SlotDesk as slots
use Rattle.band.specs.Band.{Reader}
use Rattle.desk.specs.Desk.{Desk}
use Rattle.desk.specs.Places.{empty_desk, unused_page, free_place}
use Rattle.desk.specs.Lawful.{lawful}
use Rattle.desk.specs.Calls.{Call}
use Rattle.kept.proofs.View.{shelves}
use Rattle.kept.proofs.Kept.{call-lawful}
use Rattle.serial.specs.Run.{AllDone, calling, mark_of, step, run, after}
use Rattle.serial.proofs.Office.{bureau}
use Rattle.serial.proofs.Bridge.{Alike, alike}

module _ (R : Reader) where
  pub record SameRun (d : Desk) (cs : List Call) : Type 0 where
    pub answers : run R d cs ≡ slot_run (bureau R) (shelves d) cs
    pub ends : shelves (after R d cs) ≡ slot_after (bureau R) (shelves d) cs
    pub stays : lawful (after R d cs) ≡ true

  pub same-run : (cs : List Call) (d : Desk) → lawful d ≡ true → SameRun d cs
  unfolding run after slot_run slot_after
  same-run [] d h = record { answers = refl; ends = refl; stays = h }
  same-run (c ∷ cs) d h = go (alike R d h c) (same-run cs (step R d c).desk (call-lawful R d h c))
    where
      go : Alike R (step R d c) (slot_step (bureau R) (shelves d) c) → SameRun (step R d c).desk cs → SameRun d (c ∷ cs)
      go a ih =
          record {
            answers = λ i. record { call = c; mark = a.mark i; output = a.output i }
                ∷ (ih.answers ∙ ap (λ (s : Slotted (bureau R)). slot_run
                (bureau R) s cs) a.desk) i;
            ends = ih.ends ∙ ap (λ (s : Slotted (bureau R)). slot_after (bureau R) s cs) a.desk;
            stays = ih.stays;
          }

  pub empty-shelves : shelves empty_desk ≡ slots.empty_desk (bureau R)
  unfolding shelves empty_desk unused_page free_place frees
  empty-shelves = refl

  done-number : (n : ℕ) → mark_of n ≡ accepted → n ≡ 0
  unfolding mark_of
  done-number n e = go (eqb n 0) (eqb n 4 || eqb n 5) refl e
    where
      go : (a b : Bool) → eqb n 0 ≡ a → cond a accepted (cond b crowded refused) ≡ accepted → n ≡ 0
      go true b f e = eqb-true n 0 f
      go false true f e = let z : ◌≡◌ {A = ℕ} 0 1 = cc in absurd (omega arith)
      go false false f e = let z : ◌≡◌ {A = ℕ} 0 1 = cc in absurd (omega arith)

  pub run-done : (cs : List Call) (d : Desk) → AllAccepted calling (run R d cs) → AllDone (run R d cs)
  unfolding run AllAccepted AllDone
  run-done [] d a = tt
  run-done (c ∷ cs) d a = (done-number (step R d c).answer.number a.0, run-done cs (step R d c).desk a.1)
