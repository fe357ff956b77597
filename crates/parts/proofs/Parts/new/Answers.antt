-- What is made is the parts of an empty desk. Assumes nothing.
use Rattle.parts.proofs.EmptyDesk.{unused-line, free-line, reads-empty, empty-whole}
use Rattle.parts.proofs.Parts.new.Goals as goal

pub returns : goal.returns
returns c =
    rw (unused-line c.default.result c.default.ensures, free-line c.default-2.result c.default-2.ensures)
    (reads-empty, empty-whole)
