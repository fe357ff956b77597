-- The bytes of a pel, one or two. Assumes nothing.
use mathlib.Core.Path.{◌≡◌, refl}
use Prim.Native.Nat.{ℕ, ◌-◌, ◌*◌, ◌^◌}
use native.Mathlib.Omega.{arith}
use Rattle.octets.specs.Lift.{Out}
use Rattle.octets.proofs.Lift.{scale-fits, short-next, settle-one, settle-two}
use Prim.Native.Nat.{◌<◌}
use Rattle.octets.proofs.settle.Goals as goal
use Rattle.octets.proofs.settle.Goals.{After-byte_out-b, After-byte_out-d}

-- ---- the bytes, at the powers of two
out : (c : After-byte_out-b) → let a =
    c.args in (k : ℕ) → a.next.low ≡ k * 2 ^ a.j → Out a.held k (2 ^ a.j) c.byte_out-b.result
out c = rw c.power.ensures at c.byte_out-b.ensures.1

short : (c : After-byte_out-b) → c.byte_out-b.result.low < 131072 * 2 ^ c.args.j
short c = rw c.power.ensures at c.byte_out-b.ensures.0.short

out₂ : (c : After-byte_out-d) → let b = c.byte_out-b.result in
    let i = c.args.j - b.bits in
    (k : ℕ) → b.low ≡ k * 2 ^ i → Out b.held k (2 ^ i) c.byte_out-d.result
out₂ c = rw c.power-2.ensures at c.byte_out-d.ensures.1

pub byte_out-b-requires : goal.byte_out-b-requires
byte_out-b-requires c = rw c.power.ensures (omega (arith, scale-fits c.args.j (omega arith)))

pub returns-then-j-b : goal.returns-then-j-b
returns-then-j-b c =
    let past = goal.at.returns-then-j-b c in
    let a = c.args in
    let b = c.byte_out-b.result in (
      refl,
      (λ k w s e g h. rw c.after_byte.ensures
          (settle-one a.next a.held a.j b (out past.After-byte_out-b) k w s e g h c.if-j-b.true)),
    )

pub byte_out-d-requires : goal.byte_out-d-requires
byte_out-d-requires c =
    let past = goal.at.byte_out-d-requires c in
    let a = c.args in
    let b = c.byte_out-b in
    let i = a.j - b.result.bits in
    let h = short-next b.result.low a.j i b.result.bits (omega arith) (omega arith) (short past.After-byte_out-b) in
    rw c.power-2.ensures (omega (arith, b.ensures.0.octet, scale-fits i (omega arith), h))

pub returns : goal.returns
returns c =
    let past = goal.at.returns c in
    let a = c.args in
    let b = c.byte_out-b in
    let d = c.byte_out-d in
    let i = a.j - b.result.bits in (
      refl,
      (λ k w s e g h. rw c.after_byte-2.ensures
          (settle-two a.next a.held a.j b.result (out past.After-byte_out-b) k w s e g h i d.result
          (omega (arith, c.if-j-b.false)) (out₂ past.After-byte_out-d)
          (omega (arith, c.requires.1, b.ensures.0.seven, d.ensures.0.seven)))),
    )
