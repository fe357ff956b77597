-- All doublings at once. Assumes nothing.
use mathlib.Core.Path.{sym, ap, ◌∙◌}
use Prim.Native.Nat.{ℕ, ◌+◌}
use native.Mathlib.Omega.{arith}
use lib.Pow.{shl_exact}
use Rattle.interval.proofs.Growing.{jumped, grown-jumped}
use Rattle.interval.proofs.Interval.grow.Goals as goal

pub returns : goal.returns
returns c = let i = c.args.self in
    let k = c.shifts_for-k in
    let low = shl_exact {a = i.low} 26 k.result 64 (omega arith) (omega arith) in
    let width = shl_exact {a = i.width} 13 k.result 64 (omega arith) (omega arith) in (
      (λ t. record { low = low t; width = width t; count = i.count + k.result }) ∙ ap (λ (n : ℕ). jumped n i)
          k.ensures.0
          ∙ sym (grown-jumped 12 i),
      k.ensures.0,
    )
