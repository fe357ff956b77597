-- One pel as the code codes it: the interval first, the bytes after. Assumes nothing.
use mathlib.Core.Path.{◌≡◌, refl, sym, ap, ◌∙◌, subst}
use Prim.Native.Nat.{ℕ, ◌+◌, ◌-◌, ◌*◌, ◌^◌, ◌≤◌, ◌<◌}
use native.Mathlib.Nat.{mul_assoc, add-sub_of_le, mul-le-mul_right, mul-lt-mul_of_pos_right}
use native.Mathlib.Omega.{arith}
use mathlib.Core.Bool.{Bool}
use mathlib.Core.List.{List, []}
use lib.Pow.{pow-add, pow_pos, pow_mono}
use Rattle.interval.specs.declared.Interval.{Interval}
use Rattle.interval.specs.Interval.{decision, part_of, doublings, coded}
use Rattle.interval.proofs.Growing.{jumped, grown-jumped, doublings-few}
use Rattle.octets.specs.declared.Coder.{Coder}
use Rattle.octets.specs.Octets.{Registers, byte, part, pel}
use Rattle.octets.specs.Unit.{unit}
use Rattle.octets.proofs.Unit.{unit-scale}
use Rattle.octets.specs.Fit.{Fit, Rest, Ready}
use Rattle.octets.proofs.Fit.{rest_part}
use Rattle.octets.proofs.Loops.{shifts-steps, steps-few, steps-at}
use Rattle.octets.specs.Loops.{steps}
use Rattle.octets.specs.Lift.{lift, there}

unit-most : (t : ℕ) → unit t ≤ 16777216
unfolding unit
unit-most t = pow_mono {i = 24 - t} {j = 24} (omega arith)

pub low_fits : (w : Registers) → Fit w → w.interval.low < 33554432
low_fits w f = omega (arith, f.under, unit-most w.until)

-- the bounds say nothing of the settled bytes
pub ready-bare : (c : Coder) (xs ys : List ℕ) → Ready (lift c xs) → Ready (lift c ys)
ready-bare c xs ys r =
    let f : Fit (lift c xs) = r.rest.fit in
    record {
      rest = record {
        fit = record {
          few = f.few;
          octet = f.octet;
          some = f.some;
          narrow = f.narrow;
          under = f.under;
        };
        wait = r.rest.wait;
      };
      wide = r.wide;
    }

module _ (r : Coder) (q : ℕ) (e : Bool) (ready : Ready (lift r [])) (some : 1 ≤ q) (small : q ≤ 0xAC1) where
  abbrev P : Interval
  P = part_of (decision q e) r.interval

  abbrev k : ℕ
  k = doublings 12 P.width

  parted : Rest (part (decision q e) (lift r []))
  parted = rest_part (decision q e) (lift r []) ready (record { some = some; small = small })

  pub pel-few : k < r.until → pel (decision q e) (lift r []) ≡ lift
      (record { interval = coded (decision q e) r.interval; until = r.until - k; held = r.held }) []
  pel-few h =
      shifts-steps 12 (part (decision q e) (lift r [])) ∙ steps-few k (part (decision q e) (lift r [])) h
      ∙ (λ t. record { interval = sym (grown-jumped 12 P) t; until = r.until - k; held = r.held; settled = [] })

  -- the byte goes out with k - until shifts left
  pub pel-bytes : r.until ≤ k
      → pel (decision q e) (lift r []) ≡ steps (k - r.until)
      (byte (there [] (P.low * 2 ^ r.until) (P.width * 2 ^ r.until) (P.count + r.until) r.held))
  unfolding byte
  pel-bytes h =
      shifts-steps 12 (part (decision q e) (lift r [])) ∙ ap (λ (n : ℕ). steps n (part (decision q e) (lift r [])))
      (sym (add-sub_of_le h))
      ∙ steps-at r.until (k - r.until) (part (decision q e) (lift r [])) refl parted.wait

  pub record Split (next : Interval) (j : ℕ) : Type 0 where
    pub low : next.low ≡ P.low * 2 ^ r.until * 2 ^ j
    pub width : next.width ≡ P.width * 2 ^ r.until * 2 ^ j
    pub count : next.count ≡ P.count + r.until + j
    pub short : next.low < 33554432 * 2 ^ j

  halves : (x n j m : ℕ) → n + j ≡ m → x * 2 ^ m ≡ x * 2 ^ n * 2 ^ j
  halves x n j m e =
      ap (λ (y : ℕ). x * y) (ap (λ (y : ℕ). 2 ^ y) (sym e) ∙ pow-add 2 n j) ∙ sym (mul_assoc x (2 ^ n) (2 ^ j))

  before : P.low * 2 ^ r.until < 33554432
  before =
      let f : Fit (part (decision q e) (lift r [])) = parted.fit in
      let u : 2 ^ r.until * unit r.until ≡ 16777216 = unit-scale r.until (omega (arith, f.few)) in
      let m : 8 * (P.low + P.width) * 2 ^ r.until ≤ 9 * unit r.until * 2 ^ r.until =
      mul-le-mul_right (2 ^ r.until) f.under in
      omega arith

  pub split : r.until ≤ k → Split (coded (decision q e) r.interval) (k - r.until)
  split h =
      let j : ℕ = k - r.until in
      let s : r.until + j ≡ k = add-sub_of_le h in
      let g : coded (decision q e) r.interval ≡ jumped k P = grown-jumped 12 P in
      let l : (coded (decision q e) r.interval).low ≡ P.low * 2 ^ r.until * 2 ^ j = ap (λ (i : Interval). i.low) g
      ∙ halves P.low r.until j k s in
      record {
        low = l;
        width = ap (λ (i : Interval). i.width) g ∙ halves P.width r.until j k s;
        count = ap (λ (i : Interval). i.count) g ∙ omega (arith, s);
        short = subst (λ (x : ℕ). x < 33554432 * 2 ^ j) (sym l) (mul-lt-mul_of_pos_right {k = 2 ^ j} before
            (pow_pos j));
      }

  pub left_over : r.until ≤ k → k - r.until ≤ 11
  left_over h = omega (arith, doublings-few 12 P.width, parted.wait)
