-- A row is read as the laws' reader reads it, and compared as it goes: the loop's invariant is `RowRead`, and that a
-- run reaches as far as it is known to. Assumes nothing.
use mathlib.Core.Path.{◌≡◌, refl, sym, ap, ◌∙◌, subst}
use mathlib.Core.Bool.{◌&&◌}
use Rattle.coder.specs.Writing.{counted}
use Prim.Native.Nat.{ℕ, ◌+◌, ◌*◌, ◌/◌, ◌%◌, ◌≤◌}
use native.Mathlib.Numerals.{add-one}
use native.Mathlib.Omega.{arith}
use mathlib.Core.List.{[]}
use lib.ListN.{get_or, set}
use Rattle.estimate.specs.declared.Table.{Table}
use Rattle.estimate.specs.Estimate.{LawfulTable}
use Rattle.estimate.proofs.LawfulEntries.{row_sized}
use Rattle.octets.proofs.OnePel.{low_fits}
use Rattle.template.specs.Pels.{pels_to}
use Rattle.template.specs.Packing.{Row}
use Rattle.template.specs.White.{Under}
use Rattle.template.specs.declared.Window.{Window}
use Rattle.template.specs.Window.{Slid, parted}
use Rattle.template.proofs.White.{under_none, under-part}
use Rattle.template.proofs.Sliding.{pels-bits, slid-context, slid-small}
use Rattle.template.proofs.Packing.{row-none}
use Rattle.engine.proofs.Coded.{pelled-kept}
use Rattle.engine.proofs.Followed.{match_none}
use Rattle.row.specs.AnyEngine.{given}
use Rattle.row.specs.TopEngine.{top_engine}
use Rattle.row.proofs.TopEngine.{top_is_engine, top_seven, top_up-ready, top_up-count}
use Rattle.row.proofs.AnyEngine.{bytes_few}
use Rattle.unique.specs.QCoder.{q_reader}
use Rattle.sight.proofs.Views.{told-bit}
use Rattle.reader.proofs.ReadRow.{read_told, read-start, read-turn, read-window, read-lawful, read-few}
use Rattle.reader.proofs.ReadRow.{read-room, read_whole, read_down}
use Rattle.engine.specs.Followed.{matches}
use Rattle.reader.proofs.ReadRuns.{told-so, white-small, read-run}
use Prim.Native.Nat.{◌<◌}
use Rattle.reader.proofs.read_row.Goals as goal
use Rattle.reader.proofs.read_row.Goals.{In-loop-x, in-Some, in_default, then-starts_run+else-n-ne0, else-starts_run}

-- ---- what is known in a turn
edge : (c : In-loop-x) → let w = c.loop-x.cx in (w / 4 < 32) × (w % 4 < 4)
edge c =
    let a = c.args in
    read-window top_engine top_is_engine top_seven q_reader _ _ _ _ _ _ _ _ _ _ _ _ _ _ _ _ _ _ c.loop-x.invariant.0.0
    (pels-bits a.above.bytes.now a.above.width)

-- the table is lawful, and few shifts, bytes and revisited pels came with this row
lawful : (c : In-loop-x) → LawfulTable c.loop-x.table.entries
lawful c = read-lawful top_engine top_is_engine top_seven q_reader _ _ _ _ _ _ _ _ _ _ _ _ _ _ _ _ _ _
    c.loop-x.invariant.0.0

few : (c : In-loop-x) → let l = c.loop-x in let s = c.args.start in
    (l.coder.count ≤ s.coder.interval.count + 12 * l.x) × (l.at ≤ s.at + 2 * l.x)
    × (l.revisits ≤ l.coder.count)
few c =
    let z = top_up-count _ _ c.above-coder.ensures in
    let k = read-few top_engine top_is_engine top_seven q_reader _ _ _ _ _ _ _ _ _ _ _ _ _ _ _ _ _ _
    c.loop-x.invariant.0.0 (omega (arith, c.requires.6, z)) in
    (omega (arith, k.0, z), k.1, k.2)

-- ---- the answers
pub above-coder-requires : goal.above-coder-requires
above-coder-requires c = let f = c.requires.3.rest.fit in (low_fits _ f, omega (arith, f.narrow))

pub context-cx-requires : goal.context-cx-requires
context-cx-requires c = let a = c.args in
    slid-small _ [] 0 _ (pels-bits a.above.bytes.now a.above.width) (λ y. omega arith) c.start.ensures

pub loop-x-init : goal.loop-x-init
loop-x-init c = let a = c.args in
    let p = c.requires in (
      (
        read-start top_engine top_is_engine top_seven q_reader _ _ _ _ _ _ _ _ _ _
            (subst (λ (w : Window). Slid (pels_to a.above.bytes.now a.above.width) [] 0 w) (sym c.context-cx.ensures.0)
            c.start.ensures) p.2
            (top_up-ready _ _ c.above-coder.ensures p.3) row-none,
        record { within = p.7; near = p.8; small = p.9 },
      ),
      omega arith,
      under_none _ _ _ (omega arith),
    )

pub run_end-end-requires : goal.run_end-end-requires
run_end-end-requires c = let p = c.requires in
    let i = c.loop-x.invariant in
    (p.0, c.loop-x-test.true, i.1, i.2)

pub row_of-q-requires : goal.row_of-q-requires
row_of-q-requires c = lawful (goal.at.row_of-q-requires c).In-loop-x 0

pub room-requires : goal.room-requires
room-requires c = let i = c.loop-x.invariant.0 in
    (i.0.done.coded.ready.0.wide, i.1.near)

pub fits-n-requires : goal.fits-n-requires
fits-n-requires c = let l = c.loop-x in
    let e = c.row_of-q.ensures in
    let r = row_sized (get_or l.table.entries 0 0) in
    let f = l.invariant.0.0.done.coded.ready.0.rest.fit in (
      omega (arith, c.run_end-end.ensures.1, c.requires.0),
      omega (arith, e, r.some),
      omega (arith, e, r.small),
      omega (arith, c.room.ensures.0, f.narrow),
    )

pub still-view-requires : goal.still-view-requires
still-view-requires c = let i = c.loop-x.invariant.0 in
    (i.1.near, told-so _ _ _ _ _ c.fits-n.ensures.1 c.room.ensures.1, i.1.small)

pub context-cx-requires-then-n-ne0 : goal.context-cx-requires-then-n-ne0
context-cx-requires-then-n-ne0 c = let a = c.args in
    rw c.white.ensures
    (white-small (pels_to a.above.bytes.now a.above.width) (c.loop-x.x + c.fits-n.result)
    (pels-bits a.above.bytes.now a.above.width))

pub loop-x-preserved-then-n-ne0 : goal.loop-x-preserved-then-n-ne0
loop-x-preserved-then-n-ne0 c = let a = c.args in
    let s = a.start in
    let l = c.loop-x in
    let u = c.run_end-end in
    let e = u.ensures in
    let q = c.row_of-q in
    let m = c.room.ensures in
    let n = c.fits-n in
    let so = c.starts_run.ensures c.if-starts_run.true in
    rw (c.still-coder.ensures, c.still-view.ensures, c.context-cx-then-n-ne0.ensures.0, c.white.ensures) (
      read-run a.above.width (pels_to a.above.bytes.now a.above.width) s.table.entries _ a.code.now
          s.at s.revisits s.good s.view l.row l.table.entries l.at l.revisits l.good so.0
          (pels-bits a.above.bytes.now a.above.width) c.requires.0 l.coder (parted l.cx) l.view l.x
          u.result
          n.result _ l.invariant.0 (omega (arith, so.1)) e.1 e.2 e.0 n.ensures.0
          (ap (λ (z : ℕ). n.result * z) q.ensures) (omega (arith, n.ensures.1, m.0))
          (told-so _ _ _ _ _ n.ensures.1 m.1),
      e.1,
      under-part _ _ _ _ _ (omega arith) (omega arith) e.2,
    )

pub bounds-table-cx : goal.bounds-table-cx
bounds-table-cx c = let w = edge (goal.at.bounds-table-cx c).In-loop-x in omega arith

pub read_pel-told-requires : goal.read_pel-told-requires
read_pel-told-requires c =
    let past = goal.at.read_pel-told-requires c in
    let i = c.loop-x.invariant.0 in
    let p = c.requires in (
      i.0.done.coded.ready.0,
      i.0.done.coded.ready.1,
      lawful past.In-loop-x _,
      omega (arith, (few past.In-loop-x).0, c.loop-x-test.true, p.0, p.4),
      i.1.within,
      i.1.near,
      i.1.small,
    )

pub overflow_add-revisits : goal.overflow_add-revisits
overflow_add-revisits c =
    let past = goal.at.overflow_add-revisits c in
    let i = c.loop-x.invariant.0.0 in
    let p = c.requires in
    omega (arith, (few past.In-loop-x).2, (few past.In-loop-x).0, i.passed, p.0, p.4)

pub bounds-table-cx-in-Some : goal.bounds-table-cx-in-Some
bounds-table-cx-in-Some c = let w = edge (goal.at.bounds-table-cx-in-Some c).In-loop-x in omega arith

pub match_settled-good-requires : goal.match_settled-good-requires
match_settled-good-requires c = let p = c.requires in
    omega (
      arith,
      (few (goal.at.match_settled-good-requires c).In-loop-x).1,
      c.loop-x-test.true,
      bytes_few c.in-Some.moved.bytes,
      p.0,
      p.5,
    )

pub overflow_add-at : goal.overflow_add-at
overflow_add-at c =
    let past = goal.at.overflow_add-at c in
    let i = c.loop-x.invariant.0.0 in
    let p = c.requires in
    omega (
      arith,
      (few past.In-loop-x).1,
      i.passed,
      p.0,
      p.5,
      c.len-at.ensures,
      bytes_few c.in-Some.moved.bytes,
    )

pub slide-requires : goal.slide-requires
slide-requires c = let p = c.requires in
    let w = edge (goal.at.slide-requires c).In-loop-x in
    rw c.of.ensures (
      omega (arith, c.loop-x-test.true, p.0),
      told-bit _ _ _ _ _ c.read_pel-told.ensures,
      w.0,
      w.1,
    )

pub overflow_add-row : goal.overflow_add-row
overflow_add-row c = let l = c.loop-x in
    let r = c.read_pel-told in
    let h = read-room top_engine top_is_engine top_seven q_reader _ _ _ _ _ _ _ _ _ l.row l.table.entries l.coder
    (parted l.cx) _ l.at l.revisits l.good l.x l.invariant.0.0 r.result.p
    (omega (arith, c.loop-x-test.true, c.requires.0)) (told-bit _ _ _ _ _ r.ensures) in
    omega (arith, c.pel_in_byte.ensures.0, h)

pub loop-x-preserved : goal.loop-x-preserved
loop-x-preserved c = let a = c.args in
    let l = c.loop-x in
    let r = c.read_pel-told in
    let v = r.result.pel in
    let y = c.pel_in_byte in
    let j = c.match-told in
    let e = get_or l.table.entries l.cx 0 in
    let s = c.slide in
    let k = ap (λ (w : Window). w.above) c.context-cx-in-loop-x.ensures.0 in
    let u = ap (λ (w : Window). w.this) c.context-cx-in-loop-x.ensures.0 in
    let z = rw c.of.ensures at s.ensures in
    let m = c.if-starts_run in
    let above = pels_to a.above.bytes.now a.above.width in
    let cx = l.cx in
    let sum : cx ≡ 4 * (cx / 4) + cx % 4 = omega arith in
    let put : (j.table.entries ≡ set l.table.entries cx (given e v).entry) × (j.at ≡ l.at + (given e v).settled)
    × (j.revisits ≡ counted (given e v).revisited l.revisits)
    × (j.good ≡ (l.good && matches a.code.now l.at (given e v).bytes))
    = elim j.branch [
      | in-Some w ↦ rw w.in-Some.is (
        ap (λ (u : Table). u.entries) w.table-is,
        w.at-is ∙ ap (λ (n : ℕ). l.at + n) w.len-at.ensures,
        w.revisits-is ∙ add-one l.revisits,
        w.good-is ∙ w.match_settled-good.ensures,
      )
      | in_default w ↦ (
          let k = pelled-kept top_engine top_is_engine l.coder l.table.entries [] cx l.at l.revisits _
          (given e v) r.ensures.pelled (rw w.in_default.is refl) in (
            ap (λ (u : Table). u.entries) w.table-is ∙ k.0,
            w.at-is ∙ k.2,
            w.revisits-is ∙ k.3,
            w.good-is ∙ match_none top_engine top_is_engine q_reader l.coder _ _ (given e v) a.code.now l.at l.good
                r.ensures.pelled (rw w.in_default.is refl),
          )
          )
    ] in
    let reach : (m.end ≤ a.above.width) × Under above l.x m.end
    = elim c.if-starts_run.branch [
      | then-starts_run+else-n-ne0 w ↦
          subst (λ (z : ℕ). (z ≤ a.above.width) × Under above l.x z) (sym w.end-is)
          (w.run_end-end.ensures.1, w.run_end-end.ensures.2)
      | else-starts_run w ↦
          subst (λ (z : ℕ). (z ≤ a.above.width) × Under above l.x z) (sym w.end-is) (l.invariant.1, l.invariant.2)
    ] in
    rw add-one (
      (
        read-turn top_engine top_is_engine top_seven q_reader a.above.width above a.start.table.entries _
            a.code.now a.start.at a.start.revisits a.start.good _ l.row l.table.entries
            l.coder (parted l.cx) _ l.at l.revisits l.good l.x l.invariant.0.0 (given e v)
            c.loop-x-test.true c.requires.0 r.result.expected cx r.result.p y.result _
            j.table.entries (parted c.context-cx-in-loop-x.result) j.at j.revisits j.good
            (pels-bits a.above.bytes.now a.above.width)
            (sum ∙ slid-context _ _ _ _ l.invariant.0.0.slid)
            (read_told l.coder l.view a.code.now _ r.result r.ensures) y.ensures.0 put.0
            (k ∙ z.0) (u ∙ z.1) put.1 put.2 put.3,
        record { within = r.ensures.within; near = r.ensures.near; small = r.ensures.small },
      ),
      reach.0,
      under-part _ _ _ _ _ (omega arith) (omega arith) reach.1,
    )

pub bottom-requires : goal.bottom-requires
bottom-requires c = c.loop-x.invariant.0.0.done.coded.ready.1

pub returns : goal.returns
returns c = let l = c.loop-x in
    let i = l.invariant.0 in
    let w : l.x ≡ c.args.above.width = omega (arith, i.0.passed, c.loop-x-test.false) in
    rw c.bottom.ensures
    (record {
      done = read_down _ _ c.above-coder.ensures _ _ _ _ _ _ _ _ _ _ _ c.args.start.view _ _
          (read_whole top_engine top_is_engine top_seven q_reader _ _ _ _ _ _ _ _ _ _ _ _ _ _ _ _ _ _ i.0
          c.requires.1 w);
      packed = subst (Row l.row) w i.0.packed;
      sight = i.1;
    })
