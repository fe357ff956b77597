-- All doublings at once. Assumes nothing.
use mathlib.Core.Path.{sym, ap, ◌∙◌}
use Prim.Native.Nat.{ℕ}
use native.Mathlib.Omega.{arith}
use lib.Pow.{shl_exact}
use Rattle.interval.specs.declared.Interval.{Interval}
use Rattle.interval.proofs.Growing.{jumped, grown-jumped}
use Rattle.top.specs.Top.{bottom_of, within}
use Rattle.top.proofs.Pels.{raised, raised-holds}
use Rattle.top.proofs.Top.grow.Goals as goal

pub returns : goal.returns
returns c = let t = c.args.self in
    let k = c.shifts_for-k in
    let top = shl_exact {a = t.top} 26 k.result 64 (omega arith) (omega arith) in
    let width = shl_exact {a = t.width} 13 k.result 64 (omega arith) (omega arith) in (
      raised k.result t _ _ top width
          ∙ ap (λ (n : ℕ). within (jumped n (bottom_of t).interval) t) k.ensures.0
          ∙ sym (ap (λ (i : Interval). within i t) (grown-jumped 12 (bottom_of t).interval)),
      raised-holds k.result t _ _ top width c.requires.2,
      k.ensures.0,
    )
