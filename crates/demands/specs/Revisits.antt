-- Request E11: how many pels a call may answer as revisited. Assumes nothing.
use Rattle.std.specs.Prelude.{ℕ, ◌*◌, ◌≤◌}
use Rattle.desk.specs.Desk.{Page, Desk, Outcome}
use Rattle.desk.specs.Calls.{Call, key_of, opens, writes, reads, closes, abandons, drops, looks}
use Rattle.desk.specs.Standing.{stand, page_of}

-- the pels of the band that a call is about, on a page; none where it is no band
abbrev pub pels_of : Call → Page → ℕ
pels_of (opens ask) p = 0
pels_of (writes ask pels out) p = ask.rows * p.width
pels_of (reads ask code out) p = ask.rows * p.width
pels_of (closes k) p = 0
pels_of (abandons k) p = 0
pels_of (drops k) p = 0
pels_of (looks k out) p = 0

-- the pels revisited are at most S, and at most the band's pels
pub record Revisits (d : Desk) (c : Call) (r : Outcome) : Type 0 where
  pub at_most_shifts : r.answer.revisits ≤ r.answer.shifts
  pub at_most_pels : r.answer.revisits ≤ pels_of c (page_of (stand d (key_of c)))
