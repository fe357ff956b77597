-- The byte, or 0 past the row's end, takes the eight bits below. Assumes nothing.
use native.Mathlib.Nat.{zero-add}
use native.Mathlib.Omega.{arith}
use Rattle.template.proofs.Words.{word-join}
use Rattle.template.proofs.short_word.Goals as goal

pub loop-i-preserved : goal.loop-i-preserved
loop-i-preserved c = let l = c.loop-i in
    let b = c.unwrap_or-b in
    word-join c.args.row.now 0 l.i l.w b.result l.invariant (omega arith)
    (rw (zero-add, b.ensures, c.copied.ensures) (c.get.ensures.lookup.4 (omega arith) 0)) (omega arith)
