-- The rows of a band, one after the other: the loop's invariant is `BandRead`. Assumes nothing.
use mathlib.Core.Path.{◌≡◌, refl, sym, ◌∙◌}
use Prim.Native.Nat.{◌≤◌}
use native.Mathlib.Nat.{mul-le-mul_right}
use native.Mathlib.Numerals.{add-one}
use native.Mathlib.Omega.{arith}
use borrow.Author.Rules.{rules}
use lib.ListN.{length, length-take}
use lib.Seq.{length-take-le}
use Rattle.limits.specs.Limits.{max_rows, last_bytes}
use Rattle.reader.proofs.RowsRead.{reads-start, reads-few, reads-again, next-room}
use Prim.Native.Nat.{ℕ, ◌+◌, ◌*◌}
use mathlib.Core.Path.{subst}
use Rattle.reader.proofs.read_rows.Goals as goal
use Rattle.reader.proofs.read_rows.Goals.{In-loop-y}

-- ---- what is known in a turn
room : (c : In-loop-y) → let n = c.row_bytes-bytes.result in
    c.loop-y.y * n + n ≤ length c.args.out.now
room c =
    let a = c.args in
    next-room c.loop-y.y a.rows c.row_bytes-bytes.result (length a.out.now) c.loop-y-test.true
    (subst (λ (n : ℕ). a.rows * n ≤ length a.out.now) (sym c.row_bytes-bytes.ensures) c.requires.3)

-- ---- the answers

pub loop-y-init : goal.loop-y-init
loop-y-init c = let a = c.args in
    let v = c.start-2 in
    let n : length a.last ≡ last_bytes = search rules in (
      omega arith,
      refl,
      n,
      reads-start a.width a.last a.code.now a.table a.out.now _ _ c.start.ensures
          c.requires.4 v.ensures.0
          (record { within = v.ensures.1; near = v.ensures.2; small = v.ensures.3 }),
    )

pub read_row-line-requires : goal.read_row-line-requires
read_row-line-requires c = let q = c.requires in
    let b = c.loop-y.invariant.3 in
    let f = reads-few _ _ _ _ _ _ _ _ _ b q.1 in
    let t = c.loop-y-test.true in (
      q.1,
      q.0,
      b.done.coded.lawful,
      b.done.coded.ready,
      omega (arith, f.0, t, q.2),
      omega (arith, f.1, t, q.2),
      f.2,
      b.sight.within,
      b.sight.near,
      b.sight.small,
    )

pub overflow_mul-y : goal.overflow_mul-y
overflow_mul-y c = let q = c.requires in
    let m = c.row_bytes-bytes in
    let h : c.loop-y.y ≤ max_rows = omega (arith, c.loop-y-test.true, q.2) in
    omega (arith, mul-le-mul_right m.result h, m.ensures, q.1)

pub slice_bounds-put_row-end : goal.slice_bounds-put_row-end
slice_bounds-put_row-end c = let line = c.read_row-line in
    sym (length-take-le c.row_bytes-bytes.result line.result.row
    (omega (arith, c.row_bytes-bytes.ensures, c.requires.1, line.ensures.packed.size)))

pub put_row-requires : goal.put_row-requires
put_row-requires c =
    let past = goal.at.put_row-requires c in
    simp length-take (omega (arith, room past.In-loop-y, c.loop-y.invariant.1))

pub loop-y-preserved : goal.loop-y-preserved
loop-y-preserved c = let a = c.args in
    let q = c.requires in
    let l = c.loop-y in
    let d = c.read_row-line in
    let p = c.put_row in
    let b = reads-again a.width a.last a.code.now a.table.entries a.out.now l.above l.reading
    l.out l.y l.invariant.3 q.0 q.1 d.result d.ensures _ (rw c.row_bytes-bytes.ensures at p.ensures) in
    (omega (arith, c.loop-y-test.true), p.auto.out ∙ l.invariant.1, d.ensures.packed.size, rw add-one b)

pub returns : goal.returns
returns c = let l = c.loop-y in
    let e : l.y ≡ c.args.rows = omega (arith, l.invariant.0, c.loop-y-test.false) in
    rw (← e) l.invariant.3
