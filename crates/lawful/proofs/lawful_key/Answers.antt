-- Both numbers of the key. Assumes nothing.
use Rattle.lawful.proofs.lawful_key.Goals as goal

pub returns : goal.returns
returns c = rw (c.in_range.ensures, c.in_range-2.ensures)
