-- The calls that keep their own place in the order (closings, looks, drops), and the calls of one key. Assumes nothing.
use Rattle.std.specs.Prelude.{Bool, true, false, List, [], ◌∷◌}
use Rattle.turns.specs.Service.{Kind, opening, band, closing, abandoning, looking, changing, Mark, accepted}
use Rattle.turns.specs.Service.{refused, crowded, Service, Entry}
use Rattle.turns.specs.Base.{keep}

module _ (S : Service) where
  open S use {Key, same, key, kind}

  -- ---- the order: the accepted closings, looks and drops stand in the serial order as they stood in the run
  -- the calls that have a place of their own: accepted closings, looks and drops
  abbrev pub stands_as : Mark → Kind → Bool
  stands_as refused κ = false
  stands_as crowded κ = false
  stands_as accepted opening = false
  stands_as accepted band = false
  stands_as accepted closing = true
  stands_as accepted abandoning = false
  stands_as accepted looking = true
  stands_as accepted changing = true

  -- the calls of a list that have a place of their own
  unfoldable pub standing : List (Entry S) → List (Entry S)
  standing [] = []
  standing (e ∷ es) = keep (stands_as e.mark (kind e.call)) e (standing es)

  module _ (k : Key) where
    -- the calls of the key k
    unfoldable pub of_key : List (Entry S) → List (Entry S)
    of_key [] = []
    of_key (e ∷ es) = keep (same (key e.call) k) e (of_key es)
