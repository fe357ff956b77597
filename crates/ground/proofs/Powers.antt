-- Powers of two. Assumes nothing.
use mathlib.Core.Path.{◌≡◌, ap}
use Prim.Native.Nat.{ℕ, suc, ◌*◌, ◌^◌}
use native.Mathlib.Nat.{pow-succ'}
use native.Mathlib.Omega.{arith}

-- doubled, and then k times; or k times and once
pub double-first : (x k : ℕ) → 2 * x * 2 ^ k ≡ x * 2 ^ suc k
double-first x k = let e : x * 2 ^ suc k ≡ x * (2 * 2 ^ k) = ap (λ (y : ℕ). x * y) (pow-succ' 2 k) in omega arith
