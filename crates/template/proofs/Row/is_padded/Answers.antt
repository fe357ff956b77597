-- The padding bits are the remainder of the row's last byte. Assumes nothing.
use native.Mathlib.Omega.{arith}
use Rattle.template.proofs.Padding.{padded-by}
use Rattle.template.proofs.Row.is_padded.Goals as goal

pub returns : goal.returns
returns c = let row = c.args.self in let b = c.row_bytes-bytes in
    padded-by row.bytes.now row.width b.result b.ensures (omega arith)
