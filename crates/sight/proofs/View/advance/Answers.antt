-- After k shifts: reading early what the shifts will need changes nothing. Assumes nothing.
use mathlib.Core.Path.{◌≡◌, refl, sym, ap, ◌∙◌}
use Prim.Native.Nat.{◌+◌}
use native.Mathlib.Omega.{arith}
use Rattle.octets.specs.Octets.{bits}
use Rattle.exact.specs.Sight.{Sight}
use Rattle.sight.specs.Views.{sight_of, seeks}
use Rattle.sight.proofs.Views.{seeks-few, seeks-more}
use Rattle.octets.proofs.Fit.{bits-few}
use Rattle.sight.proofs.View.advance.Goals as goal
use Rattle.sight.proofs.View.advance.Goals.{After-more-v}

-- ---- how far a byte more reaches
farther : (c : After-more-v) → let v =
    c.loop-v.v in c.more-v.result.look ≡ v.look + bits v.last
farther c = ap (λ (s : Sight). s.look) (c.more-v.ensures.0 0)

-- ---- the answers
pub loop-v-init : goal.loop-v-init
loop-v-init c = (omega arith, omega arith, omega arith, (λ w. refl))

pub more-v-requires : goal.more-v-requires
more-v-requires c = (c.loop-v.invariant.0, omega (arith, c.loop-v-test.true, c.requires.3), c.loop-v.invariant.2)

pub loop-v-smaller : goal.loop-v-smaller
loop-v-smaller c = omega (arith, farther c, c.loop-v-test.true, bits-few c.loop-v.v.last)

pub loop-v-preserved : goal.loop-v-preserved
loop-v-preserved c = let l = c.loop-v in
    let a = c.args in
    let m = c.more-v.ensures in
    let t = c.loop-v-test.true in (
      m.1,
      omega (arith, farther c, t, bits-few l.v.last),
      m.2,
      (λ w. ap (seeks a.k) (m.0 w) ∙ sym (seeks-more a.k _ (sight_of l.v w a.code.now) refl t)
          ∙ l.invariant.3 w),
    )

pub returns : goal.returns
returns c = let l = c.loop-v in
    let a = c.args in
    let t = c.loop-v-test.false in (
      (λ w. sym (seeks-few a.k (sight_of l.v w a.code.now) t) ∙ l.invariant.3 w),
      l.invariant.0,
      omega (arith, l.invariant.1, t),
      l.invariant.2,
    )
