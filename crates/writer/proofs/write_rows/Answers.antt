-- The rows of a band, one after the other: the loop's invariant is that the rows after the first keep `BandAt`. Assumes
-- nothing.
use mathlib.Core.Path.{◌≡◌, sym, ◌∙◌, subst}
use Prim.Native.Nat.{◌-◌, ◌<◌}
use native.Mathlib.Omega.{arith}
use Rattle.template.specs.Pels.{row_at}
use Rattle.octets.specs.Fit.{Ready}
use Rattle.octets.proofs.Fit.{ready-start}
use Rattle.writer.specs.RowByRow.{BandAt}
use Rattle.writer.proofs.RowByRow.{band-first, start-count, keep-next, band-few}
use Rattle.writer.proofs.write_rows.Given.{Over}
use Rattle.writer.proofs.write_rows.Goals as goal
use Rattle.writer.proofs.write_rows.Goals.{After-write_row-run, At-loop-y}

-- ---- what is known at each
-- the first row
begun : (g : Over) (c : After-write_row-run g) → let a = c.args in let band = a.band in let w = c.write_row-run in
    BandAt band.width a.last band.pels.now a.table.entries a.out.now (row_at band.width band.pels.now 0)
    w.result.table.entries w.result.coder w.new.out w.result.at w.result.revisits 1
begun g c =
    let a = c.args in
    band-first a.band.width a.last a.band.pels.now a.table.entries a.out.now _ c.start.result _ _ _ _ _
    c.row.ensures.0 c.start.ensures c.requires.1 c.write_row-run.ensures

-- the rows so far
kept : (g : Over) (c : At-loop-y g) → let a = c.args in let band = a.band in let l = c.loop-y in
    BandAt band.width a.last band.pels.now a.table.entries a.out.now
    (row_at band.width band.pels.now (l.y - 1)) l.run.table.entries l.run.coder l.out l.run.at
    l.run.revisits l.y
kept g c =
    let past = goal.at.At-loop-y g c in
    let a = c.args in c.loop-y.invariant.3 a.last a.table.entries a.out.now (begun g past.After-write_row-run)

-- ---- the answers
pub write_row-run-requires : goal.write_row-run-requires
write_row-run-requires g c = let a = c.args in
    let k = c.start in (
      a.band.narrow,
      rw c.row.ensures.1 at c.row.result.fits,
      a.band.some,
      c.requires.1,
      subst Ready (sym k.ensures) ready-start,
      omega (arith, start-count k.result k.ensures),
      omega arith,
      omega arith,
    )

pub write_row-run-requires-in-loop-y : goal.write_row-run-requires-in-loop-y
write_row-run-requires-in-loop-y g c =
    let band = c.args.band in
    let row = c.row-in-loop-y in
    let above = c.row-in-loop-y-2 in
    let b = kept g (goal.at.write_row-run-requires-in-loop-y g c).At-loop-y in
    let f = band-few _ _ _ _ _ _ _ _ _ _ _ _ b band.narrow in
    let t : c.loop-y.y < band.rows = c.loop-y-test.true in (
      rw above.ensures.1 band.narrow,
      rw above.ensures.1 (rw row.ensures.1 at row.result.fits),
      rw above.ensures.1 band.some,
      b.done.coded.lawful,
      b.done.coded.ready,
      omega (arith, f.0, t, band.few),
      omega (arith, f.1, t, band.few),
      f.2,
    )

pub loop-y-preserved : goal.loop-y-preserved
loop-y-preserved g c = let band = c.args.band in
    let l = c.loop-y in
    let row = c.row-in-loop-y in
    let above = c.row-in-loop-y-2 in
    let v = c.write_row-run-in-loop-y in
    let done = rw (row.ensures.0, above.ensures.0, above.ensures.1) at v.ensures in (
      omega (arith, l.invariant.0),
      omega (arith, c.loop-y-test.true),
      v.auto.out ∙ l.invariant.2,
      keep-next band.width band.pels.now _ l.run v.result _ l.out _ l.y _ l.invariant.0
          l.invariant.3 done (omega (arith, l.invariant.0)),
    )

pub returns : goal.returns
returns g c = let l = c.loop-y in
    let e : l.y ≡ c.args.band.rows = omega (arith, l.invariant.1, c.loop-y-test.false) in
    rw (← e) (kept g (goal.at.returns g c).At-loop-y)
