-- Demand 2 of the calls: what an accepted write gives, and what reading it back gives, on a page of the same width,
-- working table and last row. Assumes nothing.
use Rattle.std.specs.Prelude.{◌≡◌, true, List, ℕ, ◌*◌, ◌≤◌, get_or, length}
use Rattle.std.proofs.Math.Option.{some}
use Rattle.store.specs.Store.{in_front, front}
use Rattle.template.specs.Pels.{row_bytes, band_padded}
use Rattle.limits.specs.Limits.{max_rows, max_code}
use Rattle.desk.specs.declared.Ask.{Ask}
use Rattle.desk.specs.Desk.{Page, Desk, Outcome}
use Rattle.desk.specs.Lawful.{within, lawful}
use Rattle.desk.specs.Calls.{writes, reads}
use Rattle.desk.specs.Standing.{open_page}
use Rattle.desk.specs.Tests.{band_of}
use Rattle.desk.specs.Effects.{served_page}
use Rattle.desk.specs.Allowed.{Allowed}

-- the same width, working table and last row
pub record SameState (p q : Page) : Type 0 where
  pub width : p.width ≡ q.width
  pub table : p.table.entries ≡ q.table.entries
  pub last : p.last ≡ q.last

-- ---- an accepted write
module _ (d : Desk) (ask : Ask) (pels out : List ℕ) (r : Outcome) (after : List ℕ)
    (a : Allowed d (writes ask pels out) r after)
    (z : r.answer.number ≡ 0)
    (p : Page) (f : open_page d ask.key ≡ some p) where
  -- what an accepted write gives: its sizes are lawful, the bytes of the Q-coder stand in the front of the buffer,
  -- length, S and the pels revisited are theirs, and the page goes on
  pub record Wrote : Type 0 where
    pub desk_lawful : lawful d ≡ true
    pub rows : within 1 ask.rows max_rows ≡ true
    pub size : length pels ≡ ask.rows * row_bytes p.width
    pub padded : band_padded p.width pels ask.rows ≡ true
    pub short : length (band_of p ask.rows pels).code ≤ max_code
    pub length : r.answer.length ≡ length (band_of p ask.rows pels).code
    pub shifts : r.answer.shifts ≡ (band_of p ask.rows pels).shifts
    pub revisits : r.answer.revisits ≡ (band_of p ask.rows pels).revisits
    pub code : after ≡ in_front (band_of p ask.rows pels).code out
    pub page : open_page r.desk ask.key ≡ some (served_page p (band_of p ask.rows pels))

  -- ---- its code, as the caller has it: the front part of the buffer
  abbrev pub code : List ℕ
  code = front r.answer.length after

  -- read on a page in the same state, with room
  module _ (octets : (i : ℕ) → get_or pels i 0 ≤ 255) (e : Desk) (ask' : Ask) (out' : List ℕ) (q : Page)
      (g : open_page e ask'.key ≡ some q)
      (same : SameState p q) (law : lawful e ≡ true) (rows : ask.rows ≡ ask'.rows) (way : q.state ≡ 2)
      (room : length pels ≤ length out')
      (r' : Outcome) (after' : List ℕ) (b : Allowed e (reads ask' code out') r' after') where
    -- what reading it back gives: the read is accepted and answers the rows' bytes, the same S and as many pels
    -- revisited, the pels are given back, and both pages are again in the same state
    pub record ReadBack : Type 0 where
      pub accepted : r'.answer.number ≡ 0
      pub length : r'.answer.length ≡ length pels
      pub shifts : r'.answer.shifts ≡ r.answer.shifts
      pub revisits : r'.answer.revisits ≡ r.answer.revisits
      pub lent : after' ≡ in_front pels out'
      pub again : front r'.answer.length after' ≡ pels
      pub state : (p₁ q₁ : Page) × (open_page r.desk ask.key ≡ some p₁)
          × (open_page r'.desk ask'.key ≡ some q₁) × SameState p₁ q₁
