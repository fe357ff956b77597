-- A page may move: its calls so far, served again at any desk with the same learned table and room for a page, answer
-- the same. Assumes nothing.
use mathlib.Core.Path.{◌≡◌, sym, ap, ◌∙◌}
use mathlib.Core.Bool.{true, false}
use mathlib.Core.List.{List, [], ◌∷◌, ◌++◌, append_assoc}
use mathlib.Core.Option.{Option, none}
use Prim.Native.Nat.{◌<◌}
use Rattle.ground.specs.Options.{given}
use Rattle.turns.specs.Service.{keys, Entry, calls, Service, Keys}
use Rattle.turns.proofs.Office.{Cell, accept, Office, cell, service, laws_of}
use Rattle.turns.proofs.CellDesk.{has_page, has_place, Desk, store, no_page, no_place, run, after}
use Rattle.turns.proofs.Base.{placed-page, put_self, calls-append}
use Rattle.turns.proofs.Steps.{done, run-accepts, after-accepts, store-again, page-open, page-below, place-held}
use Rattle.turns.proofs.Steps.{place-by}

module _ (O : Office) where
  open O use {Key, Table, Page, Call, Output, key, act, pages, places}

  abbrev S : Service
  S = service O

  abbrev K : Keys
  K = keys S

  -- A desk at which the key has no page, this learned table, and room for a page.
  pub record Ready (s : Desk O) (k : Key) (t : Option Table) : Type 0 where
    pub at : s.cells k ≡ cell t none
    pub page-room : s.pages_open < pages
    pub place-room : given t ≡ false → s.places_taken < places

  -- The calls of an open page, served again at any ready desk with the same learned table, answer the same and leave
  -- the cell x.
  pub record Held (k : Key) (t : Option Table) (es : List (Entry S)) (x : Cell Table Page) : Type 0 where
    pub same-run : (s : Desk O) (rest : List Call) → Ready s k t → run O s (calls S es ++ rest) ≡ es
        ++ run O (store O s k x) rest
    pub same_end : (s : Desk O) (rest : List Call) → Ready s k t → after O s (calls S es ++ rest) ≡ after O
        (store O s k x) rest

  -- an opening
  pub held_first : (c : Call) (o : Output) (t : Option Table) (y : Cell Table Page) → act c (cell t none) ≡ accept o y
      → y.learned ≡ t → given y.page ≡ true → Held (key c) t (done O c o ∷ []) y
  unfolding calls
  held_first c o t y e l g = record {
    same-run = λ s rest r. run-accepts O s c o y rest (rw r.at e) (no-page s r) (no_place_lem s r);
    same_end = λ s rest r. after-accepts O s c o y rest (rw r.at e) (no-page s r) (no_place_lem s r);
  }
    where
      no-page : (s : Desk O) → Ready s (key c) t → no_page O s (key c) y ≡ false
      no-page s r = page-below O s (key c) y r.page-room

      no_place_lem : (s : Desk O) → Ready s (key c) t → no_place O s (key c) y ≡ false
      no_place_lem s r = place-by O s (key c) y t r.at r.place-room

  -- one call more on the open page: a band, or the closing
  pub held_more : (c : Call) (o : Output) (t : Option Table) (es : List (Entry S)) (x y : Cell Table Page)
      → Held (key c) t es x → given x.page ≡ true → act c x ≡ accept o y → Held (key c) t (es ++ (done O c o ∷ [])) y
  unfolding calls store
  held_more c o t es x y h g e = record {
    same-run = λ s rest r. rw (
      calls-append S es (done O c o ∷ []),
      append_assoc (calls S es) (c ∷ []) rest,
      h.same-run s (c ∷ rest) r,
      one-run s rest r,
    )
        (sym (append_assoc es (done O c o ∷ []) (run O (store O s (key c) y) rest)));
    same_end = λ s rest r. rw (
      calls-append S es (done O c o ∷ []),
      append_assoc (calls S es) (c ∷ []) rest,
      h.same_end s (c ∷ rest) r,
    ) (one_end s rest r);
  }
    where
      at : (s : Desk O) → (store O s (key c) x).cells (key c) ≡ x
      at s = put_self K (laws_of O) (key c) x s.cells

      there : (s : Desk O) → given ((store O s (key c) x).cells (key c)).page ≡ true
      there s = rw (at s) g

      placed-there : (s : Desk O) → has_place ((store O s (key c) x).cells (key c)) ≡ true
      placed-there s = rw (at s) (placed-page x.learned x.page g)

      one-run : (s : Desk O) (rest : List Call) → Ready s (key c) t → run O (store O s (key c) x) (c ∷ rest) ≡ done O c
          o ∷ run O (store O s (key c) y) rest
      one-run s rest r = run-accepts O (store O s (key c) x) c o y rest (rw (at s) e)
          (page-open O (store O s (key c) x) (key c) y (there s)) (place-held O (store O s (key c) x) (key c) y
          (placed-there s))
          ∙ ap (λ (v : Desk O). done O c o ∷ run O v rest) (store-again O s (key c) x y (ap has_page r.at) g)

      one_end : (s : Desk O) (rest : List Call) → Ready s (key c) t → after O (store O s (key c) x) (c ∷ rest) ≡ after
          O (store O s (key c) y) rest
      one_end s rest r = after-accepts O (store O s (key c) x) c o y rest (rw (at s) e)
          (page-open O (store O s (key c) x) (key c) y (there s)) (place-held O (store O s (key c) x) (key c) y
          (placed-there s))
          ∙ ap (λ (v : Desk O). after O v rest) (store-again O s (key c) x y (ap has_page r.at) g)
