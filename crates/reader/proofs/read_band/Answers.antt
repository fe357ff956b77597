-- A band is read where some band was written so, and only there. Assumes nothing.
use mathlib.Core.Path.{◌≡◌}
use Prim.Native.Nat.{◌+◌, ◌-◌, ◌≤◌}
use native.Mathlib.Nat.{mul-le-mul_right}
use native.Mathlib.Omega.{arith}
use borrow.Author.Rules.{rules}
use mathlib.Core.Bool.{true, false, ◌&&◌}
use lib.ListN.{length, take}
use lib.Seq.{length-take-le}
use Rattle.limits.specs.Limits.{max_rows, farthest}
use Rattle.engine.specs.Followed.{matches}
use Rattle.reader.proofs.RowsRead.{reads-few}
use Rattle.reader.proofs.Ends.{read_done, read-damaged, read-nothing, fits-when, fits_not, as-compared, counted}
use mathlib.Core.Bool.{Bool}
use lib.Dec.{eqb}
use Rattle.reader.proofs.read_band.Goals as goal
use Rattle.reader.proofs.read_band.Goals.{After-as_long, After-finish-end}

-- ---- what is known at each
counts : (c : After-finish-end) → let f = c.finish-end.result in length (take f.count f.bytes) ≡ f.count
counts c =
    let f = c.finish-end in
    let n : length f.result.bytes ≡ 6 = search rules in
    length-take-le f.result.count f.result.bytes (omega (arith, f.ensures.2))

-- few bytes came before
placed : (c : After-finish-end) → c.read_rows-done.result.reading.at + c.finish-end.result.count ≤ farthest
placed c =
    let a = c.args in
    let q = c.requires in
    let f = reads-few a.width a.last a.code.now a.table.entries a.out.now _ _ _ _
    c.read_rows-done.ensures q.1 in
    omega (arith, f.1, c.finish-end.ensures.2, q.3)

compared : (c : After-as_long) (v : Bool) → c.as_long.result ≡ v → let given = c.args.code.now in
    let r = c.read_rows-done.result.reading in
    let f = c.finish-end.result in
    ((r.good && matches given r.at (take f.count f.bytes)) && eqb (r.at + f.count - 1) (length given)) ≡ v
compared c v h =
    let given = c.args.code.now in
    let r = c.read_rows-done.result.reading in
    let f = c.finish-end.result in
    let s = c.match_last-same in
    as-compared (r.good && matches given r.at (take f.count f.bytes)) s.result c.as_long.result
    (r.at + f.count - 1) (length given) v (rw c.as_slice.ensures at s.ensures) c.as_long.ensures h

pub overflow_mul-length : goal.overflow_mul-length
overflow_mul-length c = let q = c.requires in
    let m = mul-le-mul_right {m = c.args.rows} {n = max_rows} c.row_bytes.result q.3 in
    omega (arith, m, c.row_bytes.ensures, q.1)

pub returns-then-out-length : goal.returns-then-out-length
returns-then-out-length c = let a = c.args in
    let s = c.row_bytes in
    let z = fits_not a.width a.rows s.result a.out.now s.ensures c.if-out-length.true in
    read-nothing a.width a.rows a.table a.last a.code.now a.out.now _ z c.clear.ensures

pub read_rows-done-requires : goal.read_rows-done-requires
read_rows-done-requires c = let q = c.requires in
    (q.0, q.1, q.3, rw c.row_bytes.ensures at c.if-out-length.false, q.4)

pub match_last-same-requires : goal.match_last-same-requires
match_last-same-requires c =
    let past = goal.at.match_last-same-requires c in
    rw (c.as_slice.ensures, counts past.After-finish-end) (placed past.After-finish-end)

pub overflow_add-reading : goal.overflow_add-reading
overflow_add-reading c = omega (arith, placed (goal.at.overflow_add-reading c).After-finish-end)

pub returns-then-not-as_long : goal.returns-then-not-as_long
returns-then-not-as_long c =
    let past = goal.at.returns-then-not-as_long c in
    let a = c.args in
    let s = c.row_bytes in
    let d = c.read_rows-done in
    let f = c.finish-end in
    let z = fits-when a.width a.rows s.result a.out.now s.ensures c.if-out-length.false in
    read-damaged a.width a.rows a.table a.last a.code.now a.out.now
    d.result.last d.result.reading _ d.ensures (take f.result.count f.result.bytes) f.ensures.0
    z (d.result.reading.at + f.result.count)
    (counted d.result.reading.at f.result.count _ (counts past.After-finish-end)) c.requires.2
    (compared past.After-as_long false c.if-not-as_long.true) _ c.clear-then-not-as_long.ensures d.auto.out

pub returns : goal.returns
returns c =
    let past = goal.at.returns c in
    let a = c.args in
    let s = c.row_bytes in
    let d = c.read_rows-done in
    let f = c.finish-end in
    let z = fits-when a.width a.rows s.result a.out.now s.ensures c.if-out-length.false in
    rw s.ensures (read_done a.width a.rows a.table a.last a.code.now a.out.now d.result.last
    d.result.reading _ d.ensures (take f.result.count f.result.bytes) f.ensures.0
    z (d.result.reading.at + f.result.count)
    (counted d.result.reading.at f.result.count _ (counts past.After-finish-end)) c.requires.2
    (compared past.After-as_long true c.if-not-as_long.false))
