-- For code over these definitions: nothing looks at the settled bytes, so a function may hand back only those that it
-- settles; and the doublings of a pel may be done in jumps, up to the next byte at once. Assumes nothing.
use mathlib.Core.Path.{◌≡◌, refl, sym, ap, ◌∙◌}
use Prim.Native.Nat.{ℕ, zero, suc, ◌+◌, ◌-◌, ◌*◌, ◌≤◌, ◌<◌}
use native.Mathlib.Nat.{sub-zero, suc-add, zero-add}
use native.Mathlib.Omega.{arith}
use mathlib.Core.List.{List, [], ◌∷◌, ◌++◌, append_assoc}
use lib.Dec.{ltb, eqb}
use mathlib.Core.Bool.{cond}
use Rattle.ground.proofs.Tests.{by_cond, by-cond₂, if-eq, if-ne}
use Rattle.interval.specs.Interval.{Decision, doublings}
use Rattle.interval.proofs.Growing.{jumped, jumped-none, jumped-more}
use Rattle.octets.specs.Octets.{Registers, carried, byte, due, double, shifts, part, pel, pad, pads, last_byte}
use Rattle.octets.specs.Octets.{cover, finish}
use Rattle.octets.proofs.Fit.{due-width, due-count, by_part}
use Rattle.octets.specs.Loops.{steps}

-- ---- bytes before
abbrev pub behind : List ℕ → Registers → Registers
behind xs w = record { interval = w.interval; until = w.until; held = w.held; settled = xs ++ w.settled }

behind-byte : (xs : List ℕ) (w : Registers) → byte (behind xs w) ≡ behind xs (byte w)
unfolding byte
behind-byte xs w =
    ap (λ (l : List ℕ). record {
      interval = record {
        low = (byte w).interval.low;
        width = w.interval.width;
        count = w.interval.count;
      };
      until = (byte w).until;
      held = (byte w).held;
      settled = l;
    }) (append_assoc xs w.settled (carried w.held w.interval.low ∷ []))

behind-due : (xs : List ℕ) (w : Registers) → due (behind xs w) ≡ behind xs (due w)
unfolding due
behind-due xs w =
    by-cond₂ (λ (v u : Registers). v ≡ behind xs u) (eqb w.until 0) (byte (behind xs w)) (behind xs w) (byte w) w
    (λ t. behind-byte xs w) (λ t. refl)

behind-shifts : (n : ℕ) (xs : List ℕ) (w : Registers) → shifts n (behind xs w) ≡ behind xs (shifts n w)
unfolding shifts
behind-shifts zero xs w = refl
behind-shifts (suc n) xs w =
    by-cond₂ (λ (v u : Registers). v ≡ behind xs u) (ltb w.interval.width 4096)
    (shifts n (due (double (behind xs w)))) (behind xs w) (shifts n (due (double w))) w
    (λ t. ap (shifts n) (behind-due xs (double w)) ∙ behind-shifts n xs (due (double w))) (λ t. refl)

pub behind-pel : (d : Decision) (xs : List ℕ) (w : Registers) → pel d (behind xs w) ≡ behind xs (pel d w)
behind-pel d xs w = behind-shifts 12 xs (part d w)

behind-pads : (n : ℕ) (xs : List ℕ) (w : Registers) → pads n (behind xs w) ≡ behind xs (pads n w)
unfolding pads
behind-pads zero xs w = refl
behind-pads (suc n) xs w = behind-pads n xs (pad w)

behind-last : (xs : List ℕ) (w : Registers) → last_byte (behind xs w) ≡ behind xs (last_byte w)
behind-last xs w = ap byte (behind-pads w.until xs w) ∙ behind-byte xs (pads w.until w)

pub behind-cover : (n r : ℕ) (xs : List ℕ) (w : Registers) → cover n r (behind xs w) ≡ behind xs (cover n r w)
unfolding cover
behind-cover zero r xs w = refl
behind-cover (suc n) r xs w =
    by-cond₂ (λ (v u : Registers). v ≡ behind xs u) (eqb r 0) (behind xs w)
    (cover n (r - (last_byte (behind xs w)).until) (last_byte (behind xs w))) w (cover n (r - (last_byte w).until)
    (last_byte w))
    (λ t. refl)
    (λ t. ap (λ (v : Registers). cover n (r - v.until) v) (behind-last xs w) ∙ behind-cover n (r - (last_byte w).until)
    xs (last_byte w))

pub behind-finish : (xs : List ℕ) (w : Registers) → finish (behind xs w) ≡ behind xs (finish w)
unfolding finish
behind-finish xs w = behind-cover 4 (24 - w.until) xs w

-- the loop is that many steps
pub shifts-steps : (n : ℕ) (w : Registers) → shifts n w ≡ steps (doublings n w.interval.width) w
unfolding shifts doublings steps
shifts-steps zero w = refl
shifts-steps (suc n) w =
    by-cond₂ (λ (v : Registers) (k : ℕ). v ≡ steps k w) (ltb w.interval.width 4096) (shifts n (due (double w))) w
    (suc (doublings n (2 * w.interval.width))) 0
    (λ t. shifts-steps n (due (double w)) ∙ ap (λ (a : ℕ). steps (doublings n a) (due (double w)))
    (due-width (double w))) (λ t. refl)

-- k at once
abbrev pub jump : ℕ → Registers → Registers
jump k w = record { interval = jumped k w.interval; until = w.until - k; held = w.held; settled = w.settled }

jump-zero : (w : Registers) → jump 0 w ≡ w
jump-zero w = λ i. record {
  interval = sym (jumped-none w.interval) i;
  until = sub-zero w.until i;
  held = w.held;
  settled = w.settled;
}

jump-double : (k : ℕ) (w : Registers) → jump k (double w) ≡ jump (suc k) w
jump-double k w = λ i. record {
  interval = jumped-more k w.interval i;
  until = down w.until i;
  held = w.held;
  settled = w.settled;
}
  where
    down : (t : ℕ) → t - 1 - k ≡ t - suc k
    down t = omega arith

due-not : (w : Registers) → 1 ≤ w.until → due w ≡ w
unfolding due
due-not w h = if-ne w.until 0 (byte w) w (λ e. go w.until h e)
  where
    go : (t : ℕ) → 1 ≤ t → t ≡ 0 → ⊥
    go t h e = omega arith

due-now : (w : Registers) → w.until ≡ 0 → due w ≡ byte w
unfolding due
due-now w e = if-eq w.until 0 (byte w) w e

-- fewer than t: one jump
pub steps-few : (k : ℕ) (w : Registers) → k < w.until → steps k w ≡ jump k w
unfolding steps
steps-few zero w h = sym (jump-zero w)
steps-few (suc k) w h =
    ap (steps k) (due-not (double w) (omega arith)) ∙ steps-few k (double w) (omega arith) ∙ jump-double k w

-- t or more: a jump to the byte, and on
steps-byte : (j k : ℕ) (w : Registers) → w.until ≡ suc j → steps (suc j + k) w ≡ steps k (byte (jump (suc j) w))
unfolding steps
steps-byte zero k w e =
    ap (λ (n : ℕ). steps n w) (suc-add 0 k ∙ ap suc (zero-add k)) ∙ ap (steps k) (due-now (double w) (omega arith)
    ∙ ap byte (sym (jump-zero (double w)) ∙ jump-double 0 w))
steps-byte (suc j) k w e =
    ap (λ (n : ℕ). steps n w) (suc-add (suc j) k) ∙ ap (steps (suc j + k)) (due-not (double w) (omega arith))
    ∙ steps-byte j k (double w) (omega arith) ∙ ap (λ (v : Registers). steps k (byte v)) (jump-double (suc j) w)

-- the same, for a number of shifts that is not 0
pub steps-at : (n k : ℕ) (w : Registers) → w.until ≡ n → 1 ≤ n → steps (n + k) w ≡ steps k (byte (jump n w))
steps-at zero k w e h = absurd (omega arith)
steps-at (suc j) k w e h = steps-byte j k w e

-- the shifts of a pel are twelve at the most
shifts-count : (n : ℕ) (w : Registers) → (shifts n w).interval.count ≤ w.interval.count + n
unfolding shifts
shifts-count zero w = omega arith
shifts-count (suc n) w =
    by_cond (λ (v : Registers). v.interval.count ≤ w.interval.count + suc n) (ltb w.interval.width 4096)
    (shifts n (due (double w))) w
    (λ t. omega (arith, shifts-count n (due (double w)), due-count (double w))) (λ t. omega arith)

pub pel-count : (d : Decision) (w : Registers) → (pel d w).interval.count ≤ w.interval.count + 12
pel-count d w = by_part (λ (v : Registers). (shifts 12 v).interval.count ≤ w.interval.count + 12) d w
    (λ t. shifts-count 12 _) (λ t. shifts-count 12 _)

-- a shift counts, and nothing takes it back
shifts-keep : (n : ℕ) (w : Registers) → w.interval.count ≤ (shifts n w).interval.count
unfolding shifts
shifts-keep zero w = omega arith
shifts-keep (suc n) w =
    by_cond (λ (v : Registers). w.interval.count ≤ v.interval.count) (ltb w.interval.width 4096)
    (shifts n (due (double w))) w
    (λ t. omega (arith, shifts-keep n (due (double w)), due-count (double w))) (λ t. omega arith)

-- one more than n, where the width a is below 1000 hex
abbrev least : ℕ → ℕ → ℕ
least a n = cond (ltb a 4096) (suc n) n

shifts-least : (n : ℕ) (w : Registers) → least w.interval.width w.interval.count
    ≤ (shifts (suc n) w).interval.count
unfolding shifts
shifts-least n w =
    by-cond₂ (λ (k : ℕ) (v : Registers). k ≤ v.interval.count) (ltb w.interval.width 4096)
    (suc w.interval.count) w.interval.count (shifts n (due (double w))) w
    (λ t. omega (arith, shifts-keep n (due (double w)), due-count (double w))) (λ t. omega arith)

-- so a pel with a shift makes the count grow, and no pel makes it fall
pub pel-counts : (d : Decision) (w : Registers) → least (part d w).interval.width w.interval.count
    ≤ (pel d w).interval.count
pel-counts d w =
    by_part (λ (v : Registers). least v.interval.width w.interval.count ≤ (shifts 12 v).interval.count) d w
    (λ t. shifts-least 11 _) (λ t. shifts-least 11 _)
