-- "Strike out the refused calls and every page that was abandoned or never closed, with all its calls. Serve what is
-- left one whole page at a time, in the order in which the pages were closed, each drop or look keeping its own place
-- in that order." Said of a list of calls with their answers; there is no desk in it. Assumes nothing.
use Rattle.std.specs.Prelude.{◌≡◌, List, [], ◌∷◌, ◌++◌}
use Rattle.turns.specs.Service.{Kind, opening, band, closing, abandoning, looking, changing, Mark, accepted}
use Rattle.turns.specs.Service.{refused, crowded, Service, keys, put, Entry}

module _ (S : Service) where
  open S use {Key, key, kind}

  -- under each key, the calls of its open page so far
  abbrev pub Waiting : Type 0
  Waiting = Key → List (Entry S)

  -- What waits after a call. A refused call changes nothing. An opening begins a page; a band joins its page;
  -- a closed page waits no more; an abandoned one is struck out with all its calls. A look or drop is no call of the
  -- page.
  unfoldable pub waits_as : Mark → Kind → Waiting → Entry S → Waiting
  waits_as refused κ w e = w
  waits_as crowded κ w e = w
  waits_as accepted opening w e = put (keys S) (key e.call) (e ∷ []) w
  waits_as accepted band w e = put (keys S) (key e.call) (w (key e.call) ++ (e ∷ [])) w
  waits_as accepted closing w e = put (keys S) (key e.call) [] w
  waits_as accepted abandoning w e = put (keys S) (key e.call) [] w
  waits_as accepted looking w e = w
  waits_as accepted changing w e = w

  -- What is served in a call's place. At a closing the whole page, the closing last; a look or drop keeps its own
  -- place;
  -- nothing at a refused call; and a page that is never closed is never served.
  unfoldable pub serves_as : Mark → Kind → Waiting → Entry S → List (Entry S)
  serves_as refused κ w e = []
  serves_as crowded κ w e = []
  serves_as accepted opening w e = []
  serves_as accepted band w e = []
  serves_as accepted closing w e = w (key e.call) ++ (e ∷ [])
  serves_as accepted abandoning w e = []
  serves_as accepted looking w e = e ∷ []
  serves_as accepted changing w e = e ∷ []

  -- what is served of the calls to come, where these pages wait
  unfoldable pub serial_from : Waiting → List (Entry S) → List (Entry S)
  serial_from w [] = []
  serial_from w (e ∷ es) =
      serves_as e.mark (kind e.call) w e ++ serial_from (waits_as e.mark (kind e.call) w e) es

  -- what is left of a run, in the order in which it is served: at first nothing waits
  unfoldable pub serial : List (Entry S) → List (Entry S)
  serial es = serial_from (λ k. []) es

  -- ---- What "one whole page at a time" means
  -- a page that is begun: an accepted opening and accepted bands, all of one key
  pub data Begun (k : Key) : List (Entry S) → Type 0 where
    begins : (e : Entry S) → e.mark ≡ accepted → kind e.call ≡ opening → key e.call ≡ k → Begun k (e ∷ [])
    goes_on : (es : List (Entry S)) (e : Entry S) → Begun k es → e.mark ≡ accepted → kind e.call ≡ band
        → key e.call ≡ k → Begun k (es ++ (e ∷ []))

  -- whole pages: each is begun, and the key's accepted closing stands directly after it; between them only accepted
  -- calls on learned tables
  pub data Whole : List (Entry S) → Type 0 where
    nothing : Whole []
    page : (k : Key) (es : List (Entry S)) (e : Entry S) (rest : List (Entry S)) → Begun k es → e.mark ≡ accepted
        → kind e.call ≡ closing → key e.call ≡ k → Whole rest → Whole ((es ++ (e ∷ [])) ++ rest)
    look : (e : Entry S) (rest : List (Entry S)) → e.mark ≡ accepted → kind e.call ≡ looking → Whole rest
        → Whole (e ∷ rest)
    change : (e : Entry S) (rest : List (Entry S)) → e.mark ≡ accepted → kind e.call ≡ changing → Whole rest
        → Whole (e ∷ rest)
