-- The last bytes compared with the code. Assumes nothing.
use mathlib.Core.Path.{sym, ◌∙◌}
use native.Mathlib.Numerals.{add-one}
use native.Mathlib.Omega.{arith}
use lib.Seq.{take_all}
use Rattle.engine.specs.Followed.{matches}
use Rattle.engine.proofs.Matching.{matches-next, with-true}
use Rattle.reader.proofs.match_last.Goals as goal
use Rattle.reader.proofs.match_last.Goals.{then-same, else-same}

pub loop-i-init : goal.loop-i-init
unfolding matches
loop-i-init c = sym (with-true _)

pub loop-i-preserved : goal.loop-i-preserved
unfolding matches
loop-i-preserved c = let a = c.args in
    let l = c.loop-i in
    rw add-one (matches-next a.code.now a.bytes.now a.at l.i a.good l.same _ (omega arith) l.invariant
    (elim c.if-same.branch [
      | then-same w ↦ rw w.if-same.true (w.same-is ∙ w.match_one-same.ensures ∙ sym (with-true _))
      | else-same w ↦ rw w.if-same.false (w.same-is ∙ w.if-same.false)
    ]))

pub returns : goal.returns
returns c = let a = c.args in
    rw (take_all c.loop-i.i a.bytes.now c.loop-i-test.false) at c.loop-i.invariant
