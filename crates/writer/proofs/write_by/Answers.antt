-- A band is written as defined, or there is no room. Assumes nothing.
use mathlib.Core.Path.{sym, ◌∙◌}
use Prim.Native.Nat.{◌-◌, ◌≤◌}
use native.Mathlib.Omega.{arith}
use lib.ListN.{length, length-take}
use Rattle.template.specs.Pels.{row_at}
use Rattle.writer.proofs.RowByRow.{band-few, with-room, without-room}
use Rattle.writer.proofs.write_by.Goals as goal

pub put_last-n-requires : goal.put_last-n-requires
put_last-n-requires g c = let a = c.args in
    let end = c.finish-end in
    let f = band-few a.band.width a.last a.band.pels.now a.table.entries a.out.now _ _ _ _ _ _ _
    c.write_rows-run.ensures a.band.narrow in
    let n : length c.as_slice-bytes.result.now ≤ end.result.count
    = rw c.as_slice-bytes.ensures (simp length-take (omega arith)) in
    omega (arith, n, f.1, end.ensures.2, a.band.few)

pub returns-then-not-has_room : goal.returns-then-not-has_room
returns-then-not-has_room g c = let a = c.args in
    let w = c.write_rows-run in
    let p = c.put_last-n in
    let z = without-room a.band.width a.band.rows a.last a.band.pels.now a.table.entries a.out.now
    (row_at a.band.width a.band.pels.now (a.band.rows - 1)) w.result.table.entries w.result.coder
    w.new.out w.result.at w.result.revisits w.ensures _ (c.as_slice-bytes.ensures ∙ c.finish-end.ensures.0) _
    p.result p.ensures.1 p.ensures.0 (sym c.has_room.ensures ∙ c.if-not-has_room.true) in
    (z.0, c.clear.ensures ∙ z.1)

pub returns : goal.returns
returns g c = let a = c.args in
    let w = c.write_rows-run in
    let p = c.put_last-n in
    with-room a.band.width a.band.rows a.last a.band.pels.now a.table.entries a.out.now
    (row_at a.band.width a.band.pels.now (a.band.rows - 1)) w.result.table.entries w.result.coder
    w.new.out w.result.at w.result.revisits w.ensures _ (c.as_slice-bytes.ensures ∙ c.finish-end.ensures.0) _
    p.result p.ensures.1 p.ensures.0 (sym c.has_room.ensures ∙ c.if-not-has_room.false) _ c.last_row.ensures
