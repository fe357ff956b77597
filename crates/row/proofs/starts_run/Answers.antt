-- What a run asks of its first pel, test by test. Assumes nothing.
use mathlib.Core.Path.{sym}
use Prim.Native.Nat.{◌+◌, ◌%◌}
use native.Mathlib.Omega.{arith}
use borrow.Author.Tests.{eqb-true}
use Rattle.ground.proofs.Bools.{no_way}
use Rattle.row.proofs.starts_run.Goals as goal

pub returns-then-white-lt-LEARNED : goal.returns-then-white-lt-LEARNED
returns-then-white-lt-LEARNED c = λ z. no_way (sym z)

pub returns-then-cx-ne0 : goal.returns-then-cx-ne0
returns-then-cx-ne0 c = λ z. no_way (sym z)

pub returns-then-width-lt-WIDE : goal.returns-then-width-lt-WIDE
returns-then-width-lt-WIDE c = λ z. no_way (sym z)

pub returns : goal.returns
returns c = λ z.
    let a = c.args in
    let s = eqb-true (a.p + a.white % 2) 0 z in
    (omega arith, omega arith)
