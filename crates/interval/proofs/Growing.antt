-- The doublings, all of them at once, and how many they are. Assumes nothing.
use mathlib.Core.Path.{◌≡◌, sym, ◌∙◌}
use mathlib.Core.Bool.{Bool, true, false}
use Prim.Native.Nat.{ℕ, zero, suc, ◌+◌, ◌*◌, ◌^◌, ◌≤◌, ◌<◌}
use native.Mathlib.Nat.{mul-one, add-zero}
use native.Mathlib.Omega.{arith}
use lib.Dec.{ltb}
use Rattle.limits.specs.Limits.{max_shifts}
use Rattle.ground.proofs.Tests.{by-cond₂, by_cond}
use Rattle.interval.specs.declared.Interval.{Interval}
use Rattle.interval.specs.Interval.{decision, part_of, doubled, grown, doublings}
use Rattle.ground.proofs.Powers.{double-first}

-- k doublings at once
abbrev pub jumped : ℕ → Interval → Interval
jumped k i = record { low = i.low * 2 ^ k; width = i.width * 2 ^ k; count = i.count + k }

pub jumped-none : (i : Interval) → i ≡ jumped 0 i
jumped-none i = λ j. record {
  low = sym (mul-one i.low) j;
  width = sym (mul-one i.width) j;
  count = sym (add-zero i.count) j;
}

pub jumped-more : (k : ℕ) (i : Interval) → jumped k (doubled i) ≡ jumped (suc k) i
jumped-more k i = λ j. record {
  low = double-first i.low k j;
  width = double-first i.width k j;
  count = up i.count j;
}
  where
    up : (s : ℕ) → suc s + k ≡ s + suc k
    up s = omega arith

-- the loop is that many doublings
pub grown-jumped : (n : ℕ) (i : Interval) → grown n i ≡ jumped (doublings n i.width) i
unfolding grown doublings
grown-jumped zero i = jumped-none i
grown-jumped (suc n) i =
    by-cond₂ (λ (v : Interval) (k : ℕ). v ≡ jumped k i) (ltb i.width 4096) (grown n (doubled i)) i
    (suc (doublings n (2 * i.width))) 0
    (λ t. grown-jumped n (doubled i) ∙ jumped-more (doublings n (2 * i.width)) i) (λ t. jumped-none i)

pub doublings-few : (n a : ℕ) → doublings n a ≤ n
unfolding doublings
doublings-few zero a = omega arith
doublings-few (suc n) a =
    by_cond (λ (k : ℕ). k ≤ suc n) (ltb a 4096) (suc (doublings n (2 * a))) 0
    (λ t. omega (arith, doublings-few n (2 * a))) (λ t. omega arith)

-- a pel's part is small enough to be doubled
pub record Fits (v : Interval) : Type 0 where
  pub some : 1 ≤ v.width
  pub small : v.width < 8192
  pub low : v.low < 2 ^ 26
  pub count : v.count < max_shifts

pub part-fits : (q : ℕ) (e : Bool) (i : Interval) → 4096 ≤ i.width → i.width < 8192 → 1 ≤ q → q ≤ 0xAC1
    → i.low < 2 ^ 25 → i.count < max_shifts
    → Fits (part_of (decision q e) i)
part-fits q true i a b c d l n = record { some = omega arith; small = omega arith; low = omega arith; count = n }
part-fits q false i a b c d l n = record { some = c; small = omega arith; low = omega arith; count = n }
