-- First the padding bits, then the bytes after the row. Assumes nothing.
use Rattle.lawful.proofs.Each.{stray-made}
use Rattle.lawful.proofs.no_stray.Goals as goal

pub returns : goal.returns
returns c = stray-made c.args.width _ _ _ _ c.row_bytes-n.ensures c.requires.0 c.is_padded.ensures
    c.is_low.ensures
