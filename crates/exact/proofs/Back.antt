-- One step back, in numbers: what bounds a code's value after a shift, a part or a byte bounds it before. Fractions are
-- compared multiplied out.
-- h is the held byte, u its unit, c the lower end that is in no byte, a the width; k or K the places of the bytes to
-- come, x or X their value.
-- Assumes nothing.
use mathlib.Core.Path.{◌≡◌, ap, subst}
use Prim.Native.Nat.{ℕ, ◌+◌, ◌*◌, ◌≤◌, ◌<◌}
use native.Mathlib.Nat.{mul-le-mul_right, lt_of_mul-lt-mul_right}
use native.Mathlib.Omega.{arith}

-- ---- a shift, or a zero: the unit before is u, after it v
pub half-floor : (h u v c k x : ℕ) → v ≡ 2 * u → (h * v + 2 * c) * k ≤ x * v → (h * u + c) * k ≤ x * u
half-floor h u v c k x e p = let p' : (h * (2 * u) + 2 * c) * k ≤ x * (2 * u) =
    subst (λ (y : ℕ). (h * y + 2 * c) * k ≤ x * y) e p in omega arith

pub half-prefix : (h u v c k x : ℕ) → v ≡ 2 * u → (h * v + 2 * c) * k < x * v → (h * u + c) * k < x * u
half-prefix h u v c k x e p = let p' : (h * (2 * u) + 2 * c) * k < x * (2 * u) =
    subst (λ (y : ℕ). (h * y + 2 * c) * k < x * y) e p in omega arith

pub half-roof : (h u v c a k x : ℕ) → v ≡ 2 * u → x * v < (h * v + 2 * c + 2 * a) * k → x * u < (h * u + c + a) * k
half-roof h u v c a k x e p = let p' : x * (2 * u) < (h * (2 * u) + 2 * c + 2 * a) * k =
    subst (λ (y : ℕ). x * y < (h * y + 2 * c + 2 * a) * k) e p in omega arith

pub half-roof-pad : (h u v c a k x : ℕ) → v ≡ 2 * u → x * v < (h * v + 2 * c + a) * k → x * u < (h * u + c + a) * k
half-roof-pad h u v c a k x e p = let p' : x * (2 * u) < (h * (2 * u) + 2 * c + a) * k =
    subst (λ (y : ℕ). x * y < (h * y + 2 * c + a) * k) e p in omega arith

-- ---- a part: q is the size of the pel; y stands for the held byte's share
pub upper-floor : (q y c k x : ℕ) → (y + (c + q)) * k ≤ x → (y + c) * k ≤ x
upper-floor q y c k x p = omega arith

pub upper-prefix : (q y c k x : ℕ) → (y + (c + q)) * k < x → (y + c) * k < x
upper-prefix q y c k x p = omega arith

pub lower-roof : (q y c a k x : ℕ) → q ≤ a → x < (y + c + q) * k → x < (y + c + a) * k
lower-roof q y c a k x h p = omega (arith, mul-le-mul_right k h)

-- ---- a byte: b is settled, h' and c' stand in the registers then, at the unit u; one unit of b is p of the next
-- byte's
module _ (h c b h' c' p u K X : ℕ) (whole : h * 16777216 + c ≡ b * 16777216 + (h' * u + c'))
    (scale : p * u ≡ 16777216) where
  pub byte-floor : (h' * u + c') * K ≤ X * u → (h * 16777216 + c) * (p * K) ≤ (b * (p * K) + X) * 16777216
  byte-floor q = omega (arith, ap (λ (x : ℕ). x * (p * K)) whole, ap (λ (x : ℕ). X * x) scale, mul-le-mul_right p q)

  pub byte-prefix : 1 ≤ p → (h' * u + c') * K < (X + 1) * u → (h * 16777216 + c) * (p * K) < (b * (p * K) + X + 1) *
      16777216
  byte-prefix s q = omega (arith, ap (λ (x : ℕ). x * (p * K)) whole, ap (λ (x : ℕ). X * x) scale, mul-le-mul_right p q)

  pub byte-roof : (a : ℕ) → 1 ≤ p → X * u < (h' * u + c' + a) * K → (b * (p * K) + X) * 16777216 <
      (h * 16777216 + c + a) * (p * K)
  byte-roof a s q = omega (arith, ap (λ (x : ℕ). x * (p * K)) whole, ap (λ (x : ℕ). X * x) scale, mul-le-mul_right p q)

-- the byte d after an FF
pub stuffed : (d h' c' a u K X : ℕ) → d * K ≤ X → X * u < (h' * u + c' + a) * K → h' * u + c' + a ≤ 144 * u → d ≤ 143
stuffed d h' c' a u K X p q r =
    let l : d * (K * u) < 144 * (K * u) = omega (arith, mul-le-mul_right K r, mul-le-mul_right u p) in
    let m : d < 144 = lt_of_mul-lt-mul_right (K * u) l in
    omega arith
