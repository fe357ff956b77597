-- The own calls of a key's pages. Assumes nothing.
use Rattle.std.specs.Prelude.{Bool, true, false, ◌&&◌, List, [], ◌∷◌}
use Rattle.turns.specs.Service.{Kind, opening, band, closing, abandoning, looking, changing}
use Rattle.turns.specs.Service.{Service, Entry}
use Rattle.turns.specs.Base.{keep}

-- A page's own calls are its open, its bands and its close or abandon; a look or drop of the same key is not one of
-- them.
abbrev pub own_kind : Kind → Bool
own_kind opening = true
own_kind band = true
own_kind closing = true
own_kind abandoning = true
own_kind looking = false
own_kind changing = false

module _ (S : Service) (k : S.Key) where
  open S use {Key, same, key, kind}

  -- the own calls of k's pages
  unfoldable pub own : List (Entry S) → List (Entry S)
  own [] = []
  own (e ∷ es) = keep (same (key e.call) k && own_kind (kind e.call)) e (own es)
