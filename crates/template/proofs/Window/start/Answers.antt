-- The window at the left edge. Assumes nothing.
use Rattle.template.proofs.Sliding.{slid-start}
use Rattle.template.proofs.Window.start.Goals as goal

pub returns : goal.returns
returns c = rw (c.edge_pel-a.ensures.0, c.edge_pel-b.ensures.0, c.edge_pel-c.ensures.0)
    (slid-start _)
