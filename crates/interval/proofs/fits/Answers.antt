-- All of them, or as many as the quotient says. Assumes nothing.
use native.Mathlib.Nat.{div-mul-le_self, div-lt_iff_lt-mul, mul-le-mul}
use native.Mathlib.Omega.{arith}
use Rattle.limits.specs.Limits.{max_width}
use Rattle.interval.proofs.fits.Goals as goal

pub overflow_mul-n : goal.overflow_mul-n
overflow_mul-n c = let p = mul-le-mul {n₁ = c.args.n} {m₁ = c.args.q} {n₂ = max_width} {m₂ = 0xAC1} c.requires.0
    c.requires.2 in omega arith

pub returns-then-n-q : goal.returns-then-n-q
returns-then-n-q c = (omega arith, c.if-n-q.true)

pub returns : goal.returns
returns c = let a = c.args in
    let f = (div-lt_iff_lt-mul {k = a.q} {x = a.room} {y = a.n} c.requires.1).1
    (omega (arith, c.if-n-q.false)) in
    (omega arith, div-mul-le_self a.room a.q)
