-- Bounds that hold of every state that a band can come to. Assumes nothing.
use Rattle.std.specs.Prelude.{◌+◌, ◌*◌, ◌≤◌}
use Rattle.octets.specs.Unit.{unit}
use Rattle.octets.specs.Octets.{Registers}

-- the bounds; t is at least 1 but between a shift and its byte
pub record Fit (w : Registers) : Type 0 where
  pub few : w.until ≤ 12
  pub octet : w.held ≤ 255
  pub some : 1 ≤ w.interval.width
  pub narrow : w.interval.width ≤ 8191
  pub under : 8 * (w.interval.low + w.interval.width) ≤ 9 * unit w.until

-- at rest: a shift is to go
pub record Rest (w : Registers) : Type 0 where
  pub fit : Fit w
  pub wait : 1 ≤ w.until

-- after at most n shifts of which n suffice, the width is at least 1000 hex
pub record Ready (w : Registers) : Type 0 where
  pub rest : Rest w
  pub wide : 4096 ≤ w.interval.width
