-- Expected pels with no shift: they only raise the lower end and narrow the width, so m of one size are one step.
-- Assumes nothing.
use mathlib.Core.Path.{◌≡◌, refl, sym, ap, ◌∙◌, subst₂}
use Prim.Native.Nat.{ℕ, zero, suc, ◌+◌, ◌-◌, ◌*◌, ◌≤◌, ◌<◌}
use native.Mathlib.Omega.{arith}
use native.Mathlib.Nat.{suc-mul, zero-mul}
use mathlib.Core.Bool.{true}
use lib.ListN.{replicate}
use Rattle.ground.proofs.Tests.{if-ge}
use Rattle.interval.specs.declared.Interval.{Interval}
use Rattle.interval.specs.Interval.{decision, upper_part}
use Rattle.octets.specs.Octets.{Registers, due, double, shifts, pel, run}
use Rattle.octets.proofs.Fit.{upper}

-- ---- two steps up are one
part_none : (i : Interval) → upper_part 0 i ≡ i
part_none i = λ t. record { low = low i.low t; width = wide i.width t; count = i.count }
  where
    low : (x : ℕ) → x + 0 ≡ x
    low x = omega arith

    wide : (x : ℕ) → x - 0 ≡ x
    wide x = omega arith

part-more : (m n s : ℕ) (i : Interval) → m + n ≡ s → upper_part n (upper_part m i) ≡ upper_part s i
part-more m n s i e = λ t. record { low = low i.low t; width = wide i.width t; count = i.count }
  where
    low : (x : ℕ) → x + m + n ≡ x + s
    low x = omega arith

    wide : (x : ℕ) → x - m - n ≡ x - s
    wide x = omega arith

-- ---- a width of 1000 hex or more is not shifted
shifts_none : (n : ℕ) (w : Registers) → 4096 ≤ w.interval.width → shifts n w ≡ w
unfolding shifts
shifts_none zero w h = refl
shifts_none (suc n) w h = if-ge w.interval.width 4096 (shifts n (due (double w))) w h

-- so one expected pel with no shift takes the upper part, and that is all
pub pel-upper : (q : ℕ) (w : Registers) → 4096 + q ≤ w.interval.width → pel (decision q true) w ≡ upper q w
pel-upper q w h = shifts_none 12 (upper q w) (omega arith)

-- and m of one size, as long as the width stays 1000 hex or more, are one step
run-expected : (m q : ℕ) (w : Registers) → 4096 + m * q ≤ w.interval.width → run (replicate m (decision q true))
    w ≡ upper (m * q) w
unfolding run
run-expected zero q w h = with_part (sym (part_none w.interval) ∙ ap (λ (k : ℕ). upper_part k w.interval)
    (sym (zero-mul q)))
  where
    with_part : w.interval ≡ upper_part (0 * q) w.interval → w ≡ upper (0 * q) w
    with_part e =
        ap (λ (i : Interval). record { interval = i; until = w.until; held = w.held; settled = w.settled }) e
run-expected (suc m) q w h =
    let s : suc m * q ≡ m * q + q = suc-mul m q in
    ap (run (replicate m (decision q true))) (pel-upper q w (omega arith)) ∙ run-expected m q (upper q w) (omega arith)
    ∙ ap (λ (i : Interval). record { interval = i; until = w.until; held = w.held; settled = w.settled })
    (part-more q (m * q) (suc m * q) w.interval (omega arith))

-- ---- as a loop takes them: from x on, m steps of the size q at once, up to y and within so much room
pub in-steps : (q x y room : ℕ) (At : ℕ → ℕ → Type 0) → ((s z : ℕ) → x ≤ z → z < y → s + q ≤ room → At s z
    → At (s + q) (suc z))
    → (m : ℕ) → x + m ≤ y → m * q ≤ room → At 0 x → At (m * q) (x + m)
in-steps q x y room At step zero h r a =
    let e : 0 * q ≡ 0 = zero-mul q in
    subst₂ At (sym e) (none x) a
  where
    none : (x : ℕ) → x ≡ x + 0
    none x = omega arith
in-steps q x y room At step (suc m) h r a =
    let e : suc m * q ≡ m * q + q = suc-mul m q in
    subst₂ At (sym e) (more x m)
    (step (m * q) (x + m) (omega arith) (omega arith) (omega arith) (in-steps q x y room At step m (omega arith)
    (omega arith) a))
  where
    more : (x m : ℕ) → suc (x + m) ≡ x + suc m
    more x m = omega arith
