-- The sizes go from what is in sight. Assumes nothing.
use mathlib.Core.Path.{◌≡◌, ap}
use Prim.Native.Nat.{ℕ, ◌*◌, ◌^◌}
use native.Mathlib.Omega.{arith}
use Rattle.sight.proofs.View.still.Goals as goal

pub overflow_mul-part : goal.overflow_mul-part
overflow_mul-part c = let a = c.args in
    let e : a.n * c.power.result ≡ a.n * 2 ^ a.self.look = ap (λ (z : ℕ). a.n * z) c.power.ensures in
    omega (arith, c.requires.1, c.requires.2)

pub overflow_sub-result : goal.overflow_sub-result
overflow_sub-result c = let a = c.args in
    let e : a.n * c.power.result ≡ a.n * 2 ^ a.self.look = ap (λ (z : ℕ). a.n * z)
    c.power.ensures in
    omega (arith, c.requires.1)

pub returns : goal.returns
returns c = rw c.power.ensures
