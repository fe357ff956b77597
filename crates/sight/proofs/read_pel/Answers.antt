-- One pel, in one of three ways: the decision is the law's, and so is what is in sight after it. Assumes nothing.
use mathlib.Core.Path.{◌≡◌, refl, sym, ap, ◌∙◌}
use Prim.Native.Nat.{ℕ, ◌-◌}
use native.Mathlib.Omega.{arith}
use mathlib.Core.Bool.{true, false}
use Rattle.estimate.specs.Estimate.{row_of}
use Rattle.estimate.proofs.LawfulEntries.{row_sized}
use Rattle.interval.proofs.Growing.{doublings-few}
use Rattle.exact.proofs.Reader.{decide_true, decide-false}
use Rattle.row.specs.AnyEngine.{moved_pel}
use Rattle.row.proofs.TopEngine.{top_pelled-moved}
use Rattle.sight.specs.declared.View.{View}
use Rattle.sight.specs.Views.{sight_of}
use Rattle.sight.proofs.Views.{told_moved, part_small}
use Rattle.sight.specs.Still.{view_by}
use Rattle.sight.proofs.Still.{told-still}
use Prim.Native.Nat.{◌*◌, ◌^◌, ◌≤◌, ◌<◌}
use Rattle.sight.proofs.read_pel.Goals as goal
use Rattle.sight.proofs.read_pel.Goals.{Else-part-view, Then-part-view}

-- ---- what is in sight tells the expected pel, or the other
enough : (c : Then-part-view) → let a = c.args in
    row_of a.e * 2 ^ a.view.look ≤ a.view.x
enough c = rw (c.power.ensures, c.row_of-q.ensures) at c.if-part-view.true

short : (c : Else-part-view) → let a = c.args in
    a.view.x < row_of a.e * 2 ^ a.view.look
short c = rw (c.power.ensures, c.row_of-q.ensures) at c.if-part-view.false

pub overflow_mul-part : goal.overflow_mul-part
overflow_mul-part c = let a = c.args in
    omega (arith, part_small a.e a.view.look _ _ c.row_of-q.ensures c.power.ensures (omega arith))

pub still-rest-requires : goal.still-rest-requires
still-rest-requires c = let p = c.requires in
    (p.5, rw c.power.ensures at c.if-part-view.true, p.6)

pub overflow_add-q : goal.overflow_add-q
overflow_add-q c = omega (arith, c.row_of-q.ensures, (row_sized c.args.e).small)

pub returns-then-q-coder : goal.returns-then-q-coder
returns-then-q-coder c = let a = c.args in
    let p = c.requires in
    let q = c.row_of-q.ensures in
    rw (c.pel_told.ensures.0, c.still_pel.ensures, c.still-rest.ensures, q)
    (told-still a.coder a.view a.code.now a.e p.1 (omega (arith, q, c.if-q-coder.true))
    (enough (goal.at.returns-then-q-coder c).Then-part-view) p.4 p.5 p.6)

pub pel-v-requires : goal.pel-v-requires
pel-v-requires c = let a = c.args in
    let p = c.requires in
    rw c.row_of-q.ensures (p.0, p.1, (row_sized a.e).some, (row_sized a.e).small, p.3)

pub advance-requires : goal.advance-requires
advance-requires c = let p = c.requires in
    rw c.still-rest.ensures (p.4, p.5, omega (arith, p.6), rw c.pel-v.ensures.2 (doublings-few 12 _))

pub returns-then-part-view : goal.returns-then-part-view
returns-then-part-view c =
    let past = goal.at.returns-then-part-view c in
    let a = c.args in
    let q = c.row_of-q.ensures in
    let v = rw q at c.pel-v.ensures in
    let s = c.still-rest in
    let n = c.next_entry in
    let w = a.coder.width in
    let r : s.result ≡ view_by (row_of a.e) a.view = s.ensures ∙ ap (λ (n : ℕ). view_by n a.view) q in
    let d = c.advance in
    rw c.moved_pel.ensures
    (told_moved a.coder a.view a.code.now a.e true _ (moved_pel c.pel-v.result n.result) s.result
    d.result _ (decide_true _ (sight_of a.view w a.code.now)
    (enough past.Then-part-view)) c.pel_told-then-part-view.ensures.0
    (top_pelled-moved a.coder a.e true c.pel-v.result _ (omega (arith, q, c.if-q-coder.false)) v.0 v.1
    n.ensures) (ap (λ (u : View). sight_of u (w - row_of a.e) a.code.now) (sym r)) v.2 d.ensures.0
    d.ensures.1 d.ensures.2 d.ensures.3)

pub pel-v-requires-2 : goal.pel-v-requires-2
pel-v-requires-2 c = let a = c.args in
    let p = c.requires in
    rw c.row_of-q.ensures (p.0, p.1, (row_sized a.e).some, (row_sized a.e).small, p.3)

pub advance-requires-2 : goal.advance-requires-2
advance-requires-2 c = let p = c.requires in
    (p.4, p.5, p.6, rw c.pel-v-2.ensures.2 (doublings-few 12 _))

pub returns : goal.returns
returns c =
    let past = goal.at.returns c in
    let a = c.args in
    let q = c.row_of-q.ensures in
    let v = rw q at c.pel-v-2.ensures in
    let n = c.next_entry-2 in
    let w = a.coder.width in
    let d = c.advance-2 in
    rw c.moved_pel-2.ensures
    (told_moved a.coder a.view a.code.now a.e false _ (moved_pel c.pel-v-2.result n.result) a.view
    d.result _ (decide-false _ (sight_of a.view w a.code.now) (short past.Else-part-view)) c.pel_told-2.ensures.0
    (top_pelled-moved a.coder a.e false c.pel-v-2.result _ (omega (arith, (row_sized a.e).small)) v.0 v.1
    n.ensures) refl v.2 d.ensures.0 d.ensures.1 d.ensures.2 d.ensures.3)
