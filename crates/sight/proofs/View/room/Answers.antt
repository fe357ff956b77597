-- The less of the two. Assumes nothing.
use Prim.Native.Nat.{ℕ, ◌*◌, ◌/◌, ◌^◌, ◌≤◌}
use native.Mathlib.Nat.{div-mul-le_self, mul-le-mul_right}
use native.Mathlib.Omega.{arith}
use Rattle.sight.proofs.View.room.Goals as goal

told-fits : (x l n : ℕ) → n ≤ x / 2 ^ l → n * 2 ^ l ≤ x
told-fits x l n h = omega (arith, mul-le-mul_right (2 ^ l) h, div-mul-le_self x (2 ^ l))

pub returns : goal.returns
returns c = let a = c.args in
    let m = c.min.ensures in
    (omega arith, told-fits a.self.x a.self.look c.min.result (omega arith))
