-- The highest bit of a width tells its doublings, and the leading zeros tell the highest bit. Assumes nothing.
use mathlib.Core.Path.{◌≡◌, ap, ◌∙◌, subst}
use mathlib.Core.Bool.{cond}
use Prim.Native.Nat.{ℕ, zero, suc, ◌+◌, ◌-◌, ◌*◌, ◌^◌, ◌≤◌, ◌<◌}
use native.Mathlib.Nat.{pow-succ'}
use native.Mathlib.Decide.{dec_lt}
use native.Mathlib.Omega.{arith}
use lib.Count.{count_leading_zeros, leading_top}
use lib.Dec.{ltb}
use lib.Pow.{pow_mono}
use Rattle.ground.proofs.Tests.{if-lt, if-ge}
use Rattle.interval.specs.Interval.{doublings}

-- the doublings of a width whose highest bit is bit k
doublings-top : (n k a : ℕ) → k ≤ 12 → 12 ≤ n + k → 2 ^ k ≤ a → a < 2 ^ suc k → doublings n a ≡ 12 - k
unfolding doublings
doublings-top zero k a h e l u = omega arith
doublings-top (suc n) k a h e l u =
    go (dec_lt k 12)
    (λ s. doublings-top n (suc k) (2 * a) s (omega arith) (rw (pow-succ' 2 k) (omega arith))
    (rw (pow-succ' 2 (suc k)) (omega arith)))
  where
    one : k < 12 → suc (12 - suc k) ≡ 12 - k
    one s = omega arith

    go : Dec (k < 12) → (k < 12 → doublings n (2 * a) ≡ 12 - suc k) → cond (ltb a 4096) (suc (doublings n (2 * a))) 0
        ≡ 12 - k
    go (yes s) f =
        let p : 2 ^ suc k ≤ 2 ^ 12 = pow_mono {i = suc k} {j = 12} s in
        if-lt a 4096 (suc (doublings n (2 * a))) 0 (omega arith) ∙ ap suc (f s) ∙ one s
    go (no s) f =
        let t : k ≡ 12 = omega arith in
        let p : 4096 ≤ a = subst (λ (z : ℕ). 2 ^ z ≤ a) t l in
        if-ge a 4096 (suc (doublings n (2 * a))) 0 p ∙ omega arith

top_small : (k a : ℕ) → 2 ^ k ≤ a → a < 8192 → k ≤ 12
top_small k a l u = go (dec_lt 12 k)
  where
    go : Dec (12 < k) → k ≤ 12
    go (yes s) = let p : 2 ^ 13 ≤ 2 ^ k = pow_mono {i = 13} {j = k} s in absurd (omega arith)
    go (no s) = omega arith

-- so 64 bits have 51 leading zeros more than the width has doublings
pub leading-doublings : (a : ℕ) → 1 ≤ a → a < 8192 → (51 ≤ count_leading_zeros 64 a) × (count_leading_zeros 64 a ≤ 64)
    × (count_leading_zeros 64 a - 51 ≡ doublings 12 a)
leading-doublings a h l =
    let t = leading_top 64 a h (omega arith) in
    let k : t.0 ≤ 12 = top_small t.0 a t.2 l in
    let d : doublings 12 a ≡ 12 - t.0 = doublings-top 12 t.0 a k (omega arith) t.2 t.3 in
    (omega (arith, t.1), omega (arith, t.1), omega (arith, t.1, d))
