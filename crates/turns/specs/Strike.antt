-- "Strike out the refused calls and every page that was abandoned or never closed, with all its calls", looking ahead
-- to how each page ends; and how often a call is left. Assumes nothing.
use Rattle.std.specs.Prelude.{Bool, true, false, cond, List, [], ◌∷◌, ℕ, ◌+◌}
use Rattle.turns.specs.Service.{Kind, opening, band, closing, abandoning, looking, changing, Mark, accepted}
use Rattle.turns.specs.Service.{refused, crowded, Service, Entry}
use Rattle.turns.specs.Base.{one}
use Rattle.turns.specs.Base.{keep}

-- one call more: what becomes of a page, given whether the call is of its key, and what becomes of the page later
abbrev pub fate_as : Bool → Mark → Kind → Bool → Bool
fate_as false m κ later = later
fate_as true refused κ later = later
fate_as true crowded κ later = later
fate_as true accepted opening later = false
fate_as true accepted band later = later
fate_as true accepted closing later = true
fate_as true accepted abandoning later = false
fate_as true accepted looking later = later
fate_as true accepted changing later = later

-- is a call left: a page's opening and bands where the page is closed later; its closing; never its abandoning; a call
-- on a table
abbrev pub left_as : Mark → Kind → Bool → Bool
left_as refused κ closed = false
left_as crowded κ closed = false
left_as accepted opening closed = closed
left_as accepted band closed = closed
left_as accepted closing closed = true
left_as accepted abandoning closed = false
left_as accepted looking closed = true
left_as accepted changing closed = true

module _ (S : Service) where
  open S use {Key, same, key, kind}

  -- the page of k that is open before these calls is closed by one of them
  unfoldable pub closed_in : Key → List (Entry S) → Bool
  closed_in k [] = false
  closed_in k (e ∷ es) = fate_as (same (key e.call) k) e.mark (kind e.call) (closed_in k es)

  -- "Strike out the refused calls and every page that was abandoned or never closed, with all its calls": what is left
  unfoldable pub strike : List (Entry S) → List (Entry S)
  strike [] = []
  strike (e ∷ es) = keep (left_as e.mark (kind e.call) (closed_in (key e.call) es)) e (strike es)

  -- how many calls of the key k pass the test t
  module _ (k : Key) (t : Entry S → Bool) where
    -- 1 for a call of the key k that passes the test t, else 0
    abbrev pub weight : Entry S → ℕ
    weight e = cond (same (key e.call) k) (one (t e)) 0

    -- how many calls of the key k pass the test t
    unfoldable pub count : List (Entry S) → ℕ
    count [] = 0
    count (e ∷ es) = weight e + count es
