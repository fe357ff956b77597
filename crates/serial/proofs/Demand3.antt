-- Demand 3 holds of every run of this desk. Assumes nothing.
use mathlib.Core.Path.{◌≡◌, sym, ap, ◌∙◌, subst}
use mathlib.Core.List.{List}
use Rattle.turns.specs.Service.{Entry, calls}
use Rattle.turns.specs.Serial.{serial, Whole}
use Rattle.turns.proofs.Order.{in_order_lem, one_key}
use Rattle.turns.proofs.Strike.{nothing_lost}
use Rattle.turns.proofs.Own.{own_order}
use Rattle.turns.proofs.Accepted.{AllAccepted, whole-accepted}
use Rattle.turns.proofs.Office.{Cell}
use Rattle.turns.proofs.Turns.{shut}
use Rattle.turns.proofs.SlotDesk.{Slotted, cell_in, slot_run, slot_after, SlotServed, slot-serialisation}
use Rattle.turns.proofs.SlotDesk as slots
use Rattle.estimate.specs.declared.Table.{Table}
use Rattle.band.specs.Band.{Reader}
use Rattle.desk.specs.declared.Key.{Key}
use Rattle.desk.specs.Desk.{Page}
use Rattle.desk.specs.Places.{empty_desk}
use Rattle.desk.specs.Calls.{Call}
use Rattle.kept.proofs.Sound.{lawful-sound}
use Rattle.kept.proofs.Cells.{cell_of, page-is, learned-is}
use Rattle.kept.proofs.Kept.{empty-lawful}
use Rattle.serial.specs.Run.{calling, run, after}
use Rattle.serial.proofs.CallingKeys.{calling_keys}
use Rattle.serial.proofs.Office.{bureau, bureau-lawful}
use Rattle.serial.proofs.KeysBeside.{SameRun, same-run, empty-shelves, run-done}
use Rattle.serial.specs.Demand3.{left, served_calls, Demand3}

module _ (R : Reader) where
  -- the theorem
  pub demand3 : (cs : List Call) → Demand3 R cs
  unfolding left
  demand3 cs =
      record {
        whole = w;
        none_refused = run-done R (served_calls R cs) empty_desk (subst (AllAccepted calling) (sym again)
            (whole-accepted calling w));
        answers = again;
        tables = λ k. learned-is (after R empty_desk (served_calls R cs))
            (lawful-sound (after R empty_desk (served_calls R cs)) b.stays) k ∙ ap (λ
            (x : Cell Table Page). x.learned) (cells k)
            ∙ sym (learned-is (after R empty_desk cs) (lawful-sound (after R empty_desk cs) a.stays) k);
        none_open = λ k. page-is (after R empty_desk (served_calls R cs))
            (lawful-sound (after R empty_desk (served_calls R cs)) b.stays) k ∙ ap (λ
            (x : Cell Table Page). x.page) (cells k);
        order = in_order_lem calling calling_keys (run R empty_desk cs);
        of-key = λ k. one_key calling calling_keys k (run R empty_desk cs);
        own_order = λ k. own_order calling calling_keys k (run R empty_desk cs);
        nothing_lost = λ k t. nothing_lost calling calling_keys k t (run R empty_desk cs);
      }
    where
      a : SameRun R empty_desk cs
      a = same-run R cs empty_desk empty-lawful

      b : SameRun R empty_desk (served_calls R cs)
      b = same-run R (served_calls R cs) empty_desk empty-lawful

      a-answers : run R empty_desk cs ≡ slot_run (bureau R) (slots.empty_desk (bureau R)) cs
      a-answers = a.answers ∙ ap (λ (s : Slotted (bureau R)). slot_run (bureau R) s cs) (empty-shelves R)

      v : SlotServed (bureau R) (serial calling (slot_run (bureau R) (slots.empty_desk (bureau R)) cs))
          (slot_after (bureau R) (slots.empty_desk
          (bureau R)) cs)
      v = slot-serialisation (bureau R) (bureau-lawful R) cs

      same_left : serial calling (slot_run (bureau R) (slots.empty_desk (bureau R)) cs) ≡ left R cs
      same_left = ap (serial calling) (sym a-answers)

      w : Whole calling (left R cs)
      w = subst (Whole calling) same_left v.whole

      again : run R empty_desk (served_calls R cs) ≡ left R cs
      again =
          b.answers ∙ ap (λ (s : Slotted (bureau R)). slot_run (bureau R) s (served_calls R cs)) (empty-shelves R)
          ∙ subst (λ (l : List (Entry calling)). slot_run (bureau R) (slots.empty_desk (bureau R)) (calls calling l) ≡ l)
          same_left v.answers

      -- at its end a run of the desk has the slots' cells
      ended : (xs : List Call) → SameRun R empty_desk xs → (k : Key) → cell_of (after R empty_desk xs) k ≡ cell_in
          (bureau R) (slot_after (bureau R)
          (slots.empty_desk (bureau R)) xs) k
      ended xs r k =
          ap (λ (s : Slotted (bureau R)). cell_in (bureau R) s k)
          (r.ends ∙ ap (λ (s : Slotted (bureau R)). slot_after (bureau R) s xs)
          (empty-shelves R))

      cells : (k : Key) → cell_of (after R empty_desk (served_calls R cs)) k ≡ shut (cell_of (after R empty_desk cs) k)
      cells k =
          ended (served_calls R cs) b k
          ∙ subst (λ (l : List (Entry calling)). cell_in (bureau R) (slot_after (bureau R) (slots.empty_desk (bureau R))
          (calls calling l)) k ≡ shut
          (cell_in (bureau R) (slot_after (bureau R) (slots.empty_desk (bureau R)) cs) k)) same_left (v.tables k)
          ∙ ap shut (sym (ended cs a k))
