-- What one call can come to, and where there is room for it. Assumes nothing.
use mathlib.Core.Path.{◌≡◌, refl, sym, ap, ◌∙◌}
use mathlib.Core.Bool.{Bool, true, false, ◌&&◌, not}
use mathlib.Core.List.{List, ◌∷◌}
use mathlib.Core.Option.{Option, some, none}
use Prim.Native.Nat.{ℕ, ◌+◌, ◌-◌, ◌≤◌, ◌<◌}
use native.Mathlib.Omega.{arith}
use lib.Dec.{leb}
use borrow.Author.Tests.{lt-leb}
use Rattle.ground.specs.Options.{given}
use Rattle.ground.proofs.Bools.{no_way, and-false}
use Rattle.turns.specs.Service.{accepted, refused, crowded, keys, put, Entry, Service, Keys}
use Rattle.turns.proofs.Office.{Cell, Result, refuse, accept, Office, cell, service, laws_of}
use Rattle.turns.specs.Base.{one}
use Rattle.turns.proofs.CellDesk.{has_page, has_place, Desk, Outcome, store, no_page, no_place, admit, settle, step}
use Rattle.turns.proofs.CellDesk.{run}
use Rattle.turns.proofs.CellDesk.{after}
use Rattle.turns.proofs.Base.{one-le, placed-page, put_self, put-put}

num-again : (a q p : ℕ) → q ≤ 1 → a + 1 - q + p - 1 ≡ a + p - q
num-again a q p h = omega arith

module _ (O : Office) where
  open O use {Key, Table, Page, Call, Output, key, act, pages, places}

  abbrev S : Service
  S = service O

  abbrev K : Keys
  K = keys S

  -- what one call can come to
  pub data Step (d : Desk O) (c : Call) : Outcome O → Type 0 where
    was-refused : (o : Output) → act c (d.cells (key c)) ≡ refuse o
        → Step d c (record { mark = refused; output = o; desk = d })
    was-crowded : (o p : Output) (y : Cell Table Page) → act c (d.cells (key c)) ≡ accept p y
        → (no_page O d (key c) y ≡ false → no_place O d (key c) y ≡ false → ⊥)
        → Step d c (record { mark = crowded; output = o; desk = d })
    was-accepted : (o : Output) (y : Cell Table Page) → act c (d.cells (key c)) ≡ accept o y → no_page O d (key c) y
        ≡ false → no_place O d (key c) y ≡ false
        → Step d c (record { mark = accepted; output = o; desk = store O d (key c) y })

  pub step_is : (d : Desk O) (c : Call) → Step d c (step O d c)
  unfolding step settle admit
  step_is d c = go (act c (d.cells (key c))) refl
    where
      room : (a b : Bool) (o : Output) (y : Cell Table Page) → act c (d.cells (key c)) ≡ accept o y
          → no_page O d (key c) y ≡ a → no_place O d (key c) y ≡ b → Step d c (admit O a b d c o y)
      room true b o y e f g = was-crowded _ o y e (λ f' g'. no_way (sym f ∙ f'))
      room false true o y e f g = was-crowded _ o y e (λ f' g'. no_way (sym g ∙ g'))
      room false false o y e f g = was-accepted o y e f g

      go : (r : Result Output (Cell Table Page)) → act c (d.cells (key c)) ≡ r → Step d c (settle O d c r)
      go (refuse o) e = was-refused o e
      go (accept o y) e = room (no_page O d (key c) y) (no_place O d (key c) y) o y e refl refl

  -- the other way round: where the act is accepted and there is room, so is the call
  step-accepts : (d : Desk O) (c : Call) (o : Output) (y : Cell Table Page) → act c (d.cells (key c)) ≡ accept o y
      → no_page O d (key c) y ≡ false → no_place O d (key c) y ≡ false
      → step O d c ≡ record { mark = accepted; output = o; desk = store O d (key c) y }
  unfolding step settle admit
  step-accepts d c o y e f g = rw (e, f, g)

  abbrev pub done : Call → Output → Entry S
  done c o = record { call = c; mark = accepted; output = o }

  pub run-accepts : (d : Desk O) (c : Call) (o : Output) (y : Cell Table Page) (rest : List Call)
      → act c (d.cells (key c)) ≡ accept o y → no_page O d (key c) y ≡ false → no_place O d (key c) y ≡ false
      → run O d (c ∷ rest) ≡ done c o ∷ run O (store O d (key c) y) rest
  unfolding run
  run-accepts d c o y rest e f g = rw (step-accepts d c o y e f g)

  pub after-accepts : (d : Desk O) (c : Call) (o : Output) (y : Cell Table Page) (rest : List Call)
      → act c (d.cells (key c)) ≡ accept o y → no_page O d (key c) y ≡ false → no_place O d (key c) y ≡ false
      → after O d (c ∷ rest) ≡ after O (store O d (key c) y) rest
  unfolding after
  after-accepts d c o y rest e f g = rw (step-accepts d c o y e f g)

  -- storing twice under a key that had no page, with a page in between, is storing once
  pub store-again : (s : Desk O) (k : Key) (x y : Cell Table Page) → given (s.cells k).page ≡ false
      → given x.page ≡ true → store O (store O s k x) k y ≡ store O s k y
  unfolding store
  store-again s k x y n h = λ i. record {
    cells = put-put K k x y s.cells i;
    pages_open = p i;
    places_taken = q i;
  }
    where
      p : s.pages_open + one (has_page x) - one (has_page (s.cells k)) + one (has_page y) - one
          (has_page (put K k x s.cells k)) ≡ s.pages_open + one (has_page y) - one (has_page (s.cells k))
      p = rw (put_self K (laws_of O) k x s.cells, h, n) (omega arith)

      q : s.places_taken + one (has_place x) - one (has_place (s.cells k)) + one (has_place y) - one
          (has_place (put K k x s.cells k)) ≡ s.places_taken + one (has_place y) - one (has_place (s.cells k))
      q = rw (put_self K (laws_of O) k x s.cells, placed-page x.learned x.page h)
          (num-again s.places_taken (one (has_place (s.cells k))) (one (has_place y)) (one-le (has_place (s.cells k))))

  -- room is there where none more is wanted, or where the count is below the limit
  pub page-open : (s : Desk O) (k : Key) (y : Cell Table Page) → given (s.cells k).page ≡ true
      → no_page O s k y ≡ false
  unfolding no_page
  page-open s k y h = rw h

  pub page-below : (s : Desk O) (k : Key) (y : Cell Table Page) → s.pages_open < pages → no_page O s k y ≡ false
  unfolding no_page
  page-below s k y h = rw (lt-leb pages s.pages_open h) (and-false (not (has_page (s.cells k)) && has_page y))

  pub page-none : (s : Desk O) (k : Key) (y : Cell Table Page) → y.page ≡ none → no_page O s k y ≡ false
  unfolding no_page
  page-none s k y h = rw h (go (not (has_page (s.cells k))))
    where
      go : (b : Bool) → ((b && false) && leb pages s.pages_open) ≡ false
      go true = refl
      go false = refl

  pub place-held : (s : Desk O) (k : Key) (y : Cell Table Page) → has_place (s.cells k) ≡ true → no_place O s k y ≡ false
  unfolding no_place
  place-held s k y h = rw h

  place-below : (s : Desk O) (k : Key) (y : Cell Table Page) → s.places_taken < places → no_place O s k y ≡ false
  unfolding no_place
  place-below s k y h = rw (lt-leb places s.places_taken h) (and-false (not (has_place (s.cells k)) && has_place y))

  pub place-by : (s : Desk O) (k : Key) (y : Cell Table Page) (t : Option Table) → s.cells k ≡ cell t none
      → (given t ≡ false → s.places_taken < places) → no_place O s k y ≡ false
  place-by s k y none e h = place-below s k y (h refl)
  place-by s k y (some t) e h = place-held s k y (ap has_place e)
