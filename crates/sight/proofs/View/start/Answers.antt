-- The first two bytes in sight. Assumes nothing.
use mathlib.Core.Path.{refl}
use native.Mathlib.Omega.{arith}
use Rattle.sight.proofs.Views.{view-start, power_small, product_small}
use Prim.Native.Nat.{◌+◌, ◌*◌, ◌≤◌}
use Rattle.sight.proofs.View.start.Goals as goal
use Rattle.sight.proofs.View.start.Goals.{After-power}

-- ---- what is known there
few : (c : After-power) → let n = c.bits_after-n.result in (7 ≤ n) × (n ≤ 8) × (c.power.result ≤ 256)
few c = power_small _ _ _ c.bits_after-n.ensures c.power.ensures

small : (c : After-power) → let f = c.fetch-a.result in
    f.byte * c.power.result + c.fetch-b.result.byte ≤ 255 * 256 + 255
small c =
    let f = c.fetch-a in
    let g = c.fetch-b in
    product_small f.result.byte c.power.result g.result.byte 255 f.ensures.1 (few c).2 g.ensures.1

pub power-requires : goal.power-requires
power-requires c = omega (arith, power_small _ _ _ c.bits_after-n.ensures refl)

pub overflow_mul-result : goal.overflow_mul-result
overflow_mul-result c = omega (arith, small (goal.at.overflow_mul-result c).After-power)

pub overflow_add-result : goal.overflow_add-result
overflow_add-result c = omega (arith, small (goal.at.overflow_add-result c).After-power)

pub overflow_sub-result : goal.overflow_sub-result
overflow_sub-result c = omega (arith, few (goal.at.overflow_sub-result c).After-power)

pub returns : goal.returns
returns c = let f = c.fetch-a in
    let g = c.fetch-b in
    let n = c.bits_after-n in
    let k = few (goal.at.returns c).After-power in (
      view-start f.result.byte g.result.byte f.result.at g.result.at n.result c.power.result
          c.args.code.now f.ensures.0 f.ensures.2 g.ensures.0 g.ensures.2 n.ensures
          c.power.ensures,
      g.ensures.3,
      omega arith,
      omega (arith, small (goal.at.returns c).After-power),
      g.ensures.1,
    )
