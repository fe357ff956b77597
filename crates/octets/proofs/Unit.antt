-- Laws of the unit of the held byte. Assumes nothing.
use mathlib.Core.Path.{◌≡◌, refl, sym, ap, ◌∙◌}
use Prim.Native.Nat.{ℕ, suc, ◌-◌, ◌*◌, ◌^◌, ◌≤◌}
use native.Mathlib.Nat.{pow-succ', add-sub_of_le}
use native.Mathlib.Omega.{arith}
use lib.Pow.{pow-add, pow_pos}
use Rattle.octets.specs.Unit.{unit}

pub unit-pred : (t : ℕ) → 1 ≤ t → t ≤ 24 → unit (t - 1) ≡ 2 * unit t
unfolding unit
unit-pred t h k = ap (λ (n : ℕ). 2 ^ n) (go t h k) ∙ pow-succ' 2 (24 - t)
  where
    go : (t : ℕ) → 1 ≤ t → t ≤ 24 → 24 - (t - 1) ≡ suc (24 - t)
    go t h k = omega arith

pub unit-zero : unit 0 ≡ 16777216
unfolding unit
unit-zero = refl

pub unit-eight : unit 8 ≡ 65536
unfolding unit
unit-eight = refl

pub unit-seven : unit 7 ≡ 131072
unfolding unit
unit-seven = refl

pub unit-scale : (t : ℕ) → t ≤ 24 → 2 ^ t * unit t ≡ 16777216
unfolding unit
unit-scale t h = sym (pow-add 2 t (24 - t)) ∙ ap (λ (n : ℕ). 2 ^ n) (add-sub_of_le h)

pub unit-pos : (t : ℕ) → 1 ≤ unit t
unfolding unit
unit-pos t = pow_pos (24 - t)
