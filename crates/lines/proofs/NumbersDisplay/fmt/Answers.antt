-- What is printed of an answer, its pieces joined. Assumes nothing.
use Rattle.std.proofs.Common.{ap, append_assoc}
use Rattle.std.proofs.Output.{has_written_of_eq}
use Rattle.lines.specs.Lines.{answer_text}
use Rattle.lines.proofs.NumbersDisplay.fmt.Goals as goal

pub returns-clause-writes : goal.returns-clause-writes
returns-clause-writes g c = λ plain ok.
    has_written_of_eq _ _ _ _ _
    (ap answer_text c.into-number.ensures)
    (has_written_of_eq _ _ _ _ _ (simp append_assoc) (c.write.ensures.writes plain ok))
