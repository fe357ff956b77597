-- The last row of a band, before zeros. Assumes nothing.
use Rattle.writer.proofs.LastRow.{in-room}
use Rattle.writer.proofs.last_row.Goals as goal

pub returns : goal.returns
returns c = let band = c.args.band in
    in-room band.pels.now _ _ band.width band.rows c.requires band.whole c.row.ensures.0 c.copy_from_slice.ensures.after
