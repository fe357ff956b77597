-- The end is the definition's. The loop's invariant: `n` last bytes stand in the array, and what follows from the
-- registers completes the code. Assumes nothing.
use mathlib.Core.Path.{◌≡◌, refl, sym}
use Prim.Native.Nat.{◌*◌, ◌^◌}
use native.Mathlib.Nat.{mul-one}
use native.Mathlib.Numerals.{add-one}
use native.Mathlib.Omega.{arith}
use Rattle.octets.specs.Octets.{finish, ended}
use Rattle.octets.specs.Lift.{Out}
use Rattle.octets.proofs.Ending.{stays, Ending, ending-start, ending-low, ending-again, ending-end}
use Prim.Native.Nat.{◌<◌}
use Rattle.octets.proofs.Coder.finish.Goals as goal
use Rattle.octets.proofs.Coder.finish.Goals.{After-power, At-loop-left}

-- ---- what the loop keeps, for the coder that is ended
ending : (c : At-loop-left) → let s = c.args.self in let l = c.loop-left in
    Ending s.interval (ended (finish (stays s.interval s.interval.low s.until s.held))) l.bytes
    l.low l.until l.held l.left l.n
ending c = c.loop-left.invariant c.args.self.interval c.requires

-- the byte that goes out is taken from a number that fits
small : (c : After-power) → c.loop-left.low * c.power.result < 33554432
small c =
    let i = c.args.self.interval in
    rw c.power.ensures (ending-low i _ _ _ (ending (goal.at.After-power c).At-loop-left).rest)

-- ---- the answers
pub overflow_sub-left : goal.overflow_sub-left
overflow_sub-left c = omega (arith, c.requires.fit.few)

pub loop-left-init : goal.loop-left-init
loop-left-init c = λ i r. ending-start i _ _ _ _ _ refl r (omega arith)

pub power-requires : goal.power-requires
power-requires c = omega (arith, (ending (goal.at.power-requires c).At-loop-left).rest.fit.few)

pub overflow_mul-low : goal.overflow_mul-low
overflow_mul-low c = omega (arith, small c)

pub byte_out-b-requires : goal.byte_out-b-requires
byte_out-b-requires c =
    let past = goal.at.byte_out-b-requires c in
    ((ending past.At-loop-left).rest.fit.octet, omega arith, omega arith, omega (arith, small c))

pub bounds-bytes-n : goal.bounds-bytes-n
bounds-bytes-n c = omega (arith, (ending (goal.at.bounds-bytes-n c).At-loop-left).fuel)

pub overflow_add-n : goal.overflow_add-n
overflow_add-n c = omega (arith, (ending (goal.at.overflow_add-n c).At-loop-left).fuel)

pub loop-left-smaller : goal.loop-left-smaller
loop-left-smaller c = let t = c.loop-left-test in
    rw c.saturating_sub-left.ensures (omega (arith, c.byte_out-b.ensures.0.seven, t.true))

pub loop-left-preserved : goal.loop-left-preserved
loop-left-preserved c = λ i r.
    let l = c.loop-left in
    let t = c.loop-left-test in
    let b = c.byte_out-b in
    let p = c.power in
    let k = l.low * 2 ^ l.until in
    let o : Out l.held k 1 b.result = b.ensures.1 k (rw p.ensures (sym (mul-one _))) in
    simp (add-one, c.saturating_sub-left.ensures)
    (ending-again i l.low l.until l.held b.result o _ _ _ _ (l.invariant i r) (λ z. omega (arith, t.true)))

pub overflow_cast-bytes : goal.overflow_cast-bytes
overflow_cast-bytes c = omega (arith, (ending (goal.at.overflow_cast-bytes c).At-loop-left).rest.fit.octet)

pub bounds-bytes-n-2 : goal.bounds-bytes-n-2
bounds-bytes-n-2 c = omega (arith, (ending (goal.at.bounds-bytes-n-2 c).At-loop-left).fuel)

pub overflow_add-bytes : goal.overflow_add-bytes
overflow_add-bytes c = omega (arith, (ending (goal.at.overflow_add-bytes c).At-loop-left).fuel)

pub bounds-bytes-n-3 : goal.bounds-bytes-n-3
bounds-bytes-n-3 c = omega (arith, (ending (goal.at.bounds-bytes-n-3 c).At-loop-left).fuel)

pub overflow_add-result : goal.overflow_add-result
overflow_add-result c = omega (arith, (ending (goal.at.overflow_add-result c).At-loop-left).fuel)

pub following-requires : goal.following-requires
following-requires c = tt

pub overflow_add-result-2 : goal.overflow_add-result-2
overflow_add-result-2 c =
    let past = goal.at.overflow_add-result-2 c in
    omega (arith, (ending past.At-loop-left).fuel, c.following.ensures.1)

pub returns : goal.returns
returns c = let e = ending (goal.at.returns c).At-loop-left in
    let z : c.loop-left.left ≡ 0 = omega (arith, c.loop-left-test.false) in
    let m = c.following.ensures in
    (ending-end _ _ _ _ _ _ _ (rw z at e) _ m.0, omega arith, omega (arith, e.fuel, m.1))
