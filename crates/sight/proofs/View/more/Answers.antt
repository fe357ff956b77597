-- One byte more in sight. Assumes nothing.
use mathlib.Core.Path.{refl}
use native.Mathlib.Omega.{arith}
use Rattle.sight.proofs.Views.{view-more, power_small, product_small}
use Prim.Native.Nat.{◌+◌, ◌*◌, ◌≤◌}
use Rattle.sight.proofs.View.more.Goals as goal
use Rattle.sight.proofs.View.more.Goals.{After-power}

-- ---- what is known there
few : (c : After-power) → let n = c.bits_after-n.result in (7 ≤ n) × (n ≤ 8) × (c.power.result ≤ 256)
few c = power_small _ _ _ c.bits_after-n.ensures c.power.ensures

small : (c : After-power) → let f =
    c.fetch-f.result in c.args.self.x * c.power.result + f.byte ≤ 4294967295 * 256 + 255
small c =
    let f = c.fetch-f in
    product_small c.args.self.x c.power.result f.result.byte 4294967295 (omega arith) (few c).2
    f.ensures.1

pub power-requires : goal.power-requires
power-requires c = omega (arith, power_small _ _ _ c.bits_after-n.ensures refl)

pub overflow_mul-result : goal.overflow_mul-result
overflow_mul-result c = omega (arith, small (goal.at.overflow_mul-result c).After-power)

pub overflow_add-result : goal.overflow_add-result
overflow_add-result c = omega (arith, small (goal.at.overflow_add-result c).After-power)

pub overflow_add-result-2 : goal.overflow_add-result-2
overflow_add-result-2 c = omega (arith, few (goal.at.overflow_add-result-2 c).After-power, c.requires.1)

pub returns : goal.returns
returns c = let a = c.args in
    let f = c.fetch-f in
    let n = c.bits_after-n in (
      (λ w. view-more a.self w f.result.byte f.result.at n.result c.power.result a.code.now
          f.ensures.0 f.ensures.2 n.ensures c.power.ensures),
      f.ensures.3,
      omega arith,
      f.ensures.1,
    )
