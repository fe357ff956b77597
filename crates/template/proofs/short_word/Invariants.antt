use Rattle.template.specs.Words.{Word}
use Rattle.template.proofs.short_word.Given as goal

abbrev pub invariant-loop-i : goal.invariant-loop-i
invariant-loop-i l = Word l.row 0 l.i l.w
