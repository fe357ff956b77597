-- The serial order of a run, served on a new desk, answers as before and leaves the same learned tables: for every
-- office with the six laws. While a page is open its key's learned table cannot change, which is why a page may move to
-- its closing. Assumes nothing.
use mathlib.Core.Path.{◌≡◌, refl, sym, ap, ◌∙◌, subst}
use mathlib.Core.Bool.{Bool, true, false, ◌&&◌, not}
use mathlib.Core.List.{List, [], ◌∷◌, ◌++◌}
use mathlib.Core.Option.{Option, none}
use Prim.Native.Nat.{ℕ, ◌+◌, ◌-◌, ◌≤◌, ◌<◌}
use native.Mathlib.Omega.{arith}
use lib.Dec.{leb}
use lib.ListN.{length}
use borrow.Author.Tests.{leb-false}
use Rattle.ground.specs.Options.{given}
use Rattle.ground.proofs.Bools.{no_way}
use Rattle.turns.specs.Service.{Kind, opening, band, closing, abandoning, looking, changing, accepted, keys, put}
use Rattle.turns.specs.Service.{Entry, calls, Service, Keys}
use Rattle.turns.proofs.Office.{Cell, accept, Office, cell, service, laws_of}
use Rattle.turns.specs.Base.{one}
use Rattle.turns.proofs.CellDesk.{placed, has_page, has_place, Desk, Outcome, new_desk, store, no_page, no_place}
use Rattle.turns.proofs.CellDesk.{step}
use Rattle.turns.proofs.CellDesk.{entry, run, after}
use Rattle.turns.specs.Serial.{Waiting, waits_as, serves_as, serial_from, serial, Begun, begins, goes_on, Whole}
use Rattle.turns.specs.Serial.{nothing, page, look, change}
use Rattle.turns.proofs.OfficeLaws.{Keeping, Laws, law-of}
use Rattle.turns.proofs.Base.{placed-none, only-reserved, room-down, put-each, put_both, has_one, relist-length}
use Rattle.turns.proofs.Base.{calls-append}
use Rattle.turns.proofs.Steps.{Step, was-refused, was-crowded, was-accepted, step_is, done, run-accepts}
use Rattle.turns.proofs.Steps.{after-accepts, page-none}
use Rattle.turns.proofs.Held.{Ready, Held, held_first, held_more}
use Rattle.turns.proofs.Tally.{Tally, learned_now, reserved_now, tally-store}

-- a cell without its page
abbrev pub shut : {T P : Type 0} → Cell T P → Cell T P
shut x = cell x.learned none

module _ (O : Office) where
  open O use {Key, Table, Page, Call, Output, key, kind, act, pages, places}

  abbrev S : Service
  S = service O

  abbrev K : Keys
  K = keys S

  -- ---- the serial desk beside the desk: the same learned tables, no page
  unfoldable bare : Desk O → ℕ → Desk O
  bare d n = record { cells = λ k. shut (d.cells k); pages_open = 0; places_taken = n }

  -- ---- the invariant: the calls that wait under each open page lead, from its learned table, to its working state
  record Inv (d : Desk O) (w : Waiting S) (ls ks : List Key) : Type 0 where
    tally : Tally O d ls ks
    held : (j : Key) → given (d.cells j).page ≡ true → Held O j (d.cells j).learned (w j) (d.cells j)
    room : (j : Key) → given (d.cells j).page ≡ true → 0 < pages
    begun : (j : Key) → given (d.cells j).page ≡ true → Begun S j (w j)

  -- The calls es are whole pages and table calls, all accepted; served at s they answer as they did, and leave d's
  -- learned tables and no page.
  pub record Served (s : Desk O) (es : List (Entry S)) (d : Desk O) : Type 0 where
    pub whole : Whole S es
    pub answers : run O s (calls S es) ≡ es
    pub tables : (k : Key) → (after O s (calls S es)).cells k ≡ shut (d.cells k)

  served-page : (k : Key) (t : Option Table) (es L : List (Entry S)) (y : Cell Table Page) (s d : Desk O)
      → Held O k t es y → Ready O s k t → (Whole S L → Whole S (es ++ L)) → Served (store O s k y) L d
      → Served s (es ++ L) d
  served-page k t es L y s d h r g v = record {
    whole = g v.whole;
    answers = rw (calls-append S es L, h.same-run s (calls S L) r, v.answers);
    tables = λ j. rw (calls-append S es L, h.same_end s (calls S L) r) (v.tables j);
  }

  served-one : (c : Call) (o : Output) (L : List (Entry S)) (y : Cell Table Page) (s d : Desk O)
      → act c (s.cells (key c)) ≡ accept o y → no_page O s (key c) y ≡ false → no_place O s (key c) y ≡ false
      → (Whole S L → Whole S (done O c o ∷ L)) → Served (store O s (key c) y) L d → Served s (done O c o ∷ L) d
  unfolding calls
  served-one c o L y s d e f g i v = record {
    whole = i v.whole;
    answers = run-accepts O s c o y (calls S L) e f g ∙ ap (λ l. done O c o ∷ l) v.answers;
    tables = λ j. rw (after-accepts O s c o y (calls S L) e f g) (v.tables j);
  }

  bare-same : (d : Desk O) (k : Key) (y : Cell Table Page) (n : ℕ) → y.learned ≡ (d.cells k).learned
      → bare (store O d k y) n ≡ bare d n
  unfolding bare store
  bare-same d k y n e = λ i. record {
    cells = λ j. put-each K (laws_of O) (λ j x. shut x ≡ shut (d.cells j)) k y d.cells (ap (λ (t : Option Table). cell t none)
        e) (λ j f. refl) j i;
    pages_open = 0;
    places_taken = n;
  }

  bare-store : (d : Desk O) (k : Key) (y z : Cell Table Page) (n : ℕ) → z.page ≡ none → z.learned ≡ y.learned
      → store O (bare d n) k z ≡ bare (store O d k y) (n + one (given y.learned) - one (given (d.cells k).learned))
  unfolding bare store
  bare-store d k y z n p e = λ i. record {
    cells = λ j. put_both K (laws_of O) (λ j a b. a ≡ shut b) k z (λ j. shut (d.cells j)) y d.cells
        (λ i. record { learned = e i; page = p i }) (λ j. refl) j i;
    pages_open = pg i;
    places_taken = pl i;
  }
    where
      pg : 0 + one (has_page z) - one (has_page (shut (d.cells k))) ≡ 0
      pg = rw p

      pl : n + one (has_place z) - one (has_place (shut (d.cells k))) ≡ n + one (given y.learned) - one
          (given (d.cells k).learned)
      pl = rw (placed-none z.learned z.page p, e, placed-none {P = Page} (d.cells k).learned none refl)

  served-at : (s s' : Desk O) (L : List (Entry S)) (d : Desk O) → s ≡ s' → Served s L d → Served s' L d
  served-at s s' L d e v = subst (λ (u : Desk O). Served u L d) e v

  module _ (d : Desk O) (c : Call) (o : Output) (y : Cell Table Page) (a : act c (d.cells (key c)) ≡ accept o y)
      (np : no_page O d (key c) y ≡ false) (nq : no_place O d (key c) y ≡ false) (w : Waiting S) (ls ks : List Key)
      (inv : Inv d w ls ks) where
    abbrev now : Desk O
    now = store O d (key c) y

    abbrev ls' : List Key
    ls' = learned_now O d (key c) y ls

    abbrev ks' : List Key
    ks' = reserved_now O d (key c) y ks

    inv-put : (es : List (Entry S)) → (given y.page ≡ true → Held O (key c) y.learned es y)
        → (given y.page ≡ true → 0 < pages) → (given y.page ≡ true → Begun S (key c) es)
        → Inv now (put K (key c) es w) ls' ks'
    unfolding store
    inv-put es h r b = record {
      tally = tally-store O d (key c) y ls ks inv.tally nq;
      held = put_both K (laws_of O) (λ j x es. given x.page ≡ true → Held O j x.learned es x) (key c) y d.cells es w h
          inv.held;
      room = put-each K (laws_of O) (λ j x. given x.page ≡ true → 0 < pages) (key c) y d.cells r (λ j f. inv.room j);
      begun = put_both K (laws_of O) (λ j x es. given x.page ≡ true → Begun S j es) (key c) y d.cells es w b inv.begun;
    }

    inv-keep : (given y.page ≡ true → Held O (key c) y.learned (w (key c)) y)
        → (given y.page ≡ true → 0 < pages) → (given y.page ≡ true → Begun S (key c) (w (key c)))
        → Inv now w ls' ks'
    unfolding store
    inv-keep h r b = record {
      tally = tally-store O d (key c) y ls ks inv.tally nq;
      held = put-each K (laws_of O) (λ j x. given x.page ≡ true → Held O j x.learned (w j) x) (key c) y d.cells h
          (λ j f. inv.held j);
      room = put-each K (laws_of O) (λ j x. given x.page ≡ true → 0 < pages) (key c) y d.cells r (λ j f. inv.room j);
      begun = put-each K (laws_of O) (λ j x. given x.page ≡ true → Begun S j (w j)) (key c) y d.cells b (λ j f. inv.begun j);
    }

    length-now : length ls' ≡ length ls + one (given y.learned) - one (given (d.cells (key c)).learned)
    length-now =
        relist-length K (key c) (given (d.cells (key c)).learned) (given y.learned) ls (inv.tally.learnt (key c))

    length-same : y.learned ≡ (d.cells (key c)).learned → length ls' ≡ length ls
    length-same e = length-now ∙ go
      where
        go : length ls + one (given y.learned) - one (given (d.cells (key c)).learned) ≡ length ls
        go = rw e (omega arith)

    bare-now : y.learned ≡ (d.cells (key c)).learned → bare now (length ls') ≡ bare d (length ls)
    bare-now e = ap (λ (n : ℕ). bare now n) (length-same e) ∙ bare-same d (key c) y (length ls) e

    bare-put : (z : Cell Table Page) → z.page ≡ none → z.learned ≡ y.learned → bare now (length ls') ≡ store O
        (bare d (length ls)) (key c) z
    bare-put z p e = ap (λ (n : ℕ). bare now n) length-now ∙ sym (bare-store d (key c) y z (length ls) p e)

    ready : given (d.cells (key c)).page ≡ true → Ready O (bare d (length ls)) (key c) (d.cells (key c)).learned
    unfolding bare
    ready g = record {
      at = refl;
      page-room = inv.room (key c) g;
      place-room = λ h. let q : 1 ≤ length ks = has_one K (key c) ks
          (inv.tally.reserved (key c) (only-reserved (d.cells (key c)).learned (d.cells (key c)).page h g)) in
          omega (arith, inv.tally.count, inv.tally.below);
    }

    no-given : y.page ≡ none → {A : Type 0} → given y.page ≡ true → A
    no-given e {A} g = no_way (sym g ∙ ap given e)

    room-then : (d.cells (key c)).page ≡ none → given y.page ≡ true → 0 < pages
    unfolding no_page
    room-then p g = let h : d.pages_open < pages = leb-false pages d.pages_open (rw (p, g) at np) in omega arith

    look-bare : act c (cell (d.cells (key c)).learned none) ≡ accept o (cell (d.cells (key c)).learned none)
        → act c ((bare d (length ls)).cells (key c)) ≡ accept o (shut (d.cells (key c)))
    unfolding bare
    look-bare e = e

    place_same : (n : ℕ) → no_place O (bare d n) (key c) (shut (d.cells (key c))) ≡ false
    unfolding no_place bare
    place_same n = go (has_place (shut (d.cells (key c))))
      where
        go : (b : Bool) → ((not b && b) && leb places n) ≡ false
        go true = refl
        go false = refl

    change-bare : (d.cells (key c)).page ≡ none → act c ((bare d (length ls)).cells (key c)) ≡ accept o y
    unfolding bare
    change-bare p = subst (λ (q : Option Page). act c (cell (d.cells (key c)).learned q) ≡ accept o y) p a

    place-bare : (d.cells (key c)).page ≡ none → no_place O (bare d (length ls)) (key c) y ≡ false
    unfolding no_place bare
    place-bare p = room-down (not (has_place (shut (d.cells (key c)))) && has_place y) places d.places_taken
        (length ls)
        (subst (λ (q : Option Page). ((not (placed (d.cells (key c)).learned q) && has_place y) && leb places
        d.places_taken) ≡ false) p nq)
        (omega (arith, inv.tally.count))

    module _ (L : Laws O) (cs : List Call)
        (ih : (w' : Waiting S) (ls'' ks'' : List Key) → Inv now w' ls'' ks'' → Served (bare now (length ls''))
        (serial_from S w' (run O now cs)) (after O now cs)) where
      turn : (κ : Kind) → kind c ≡ κ → Served (bare d (length ls)) (serves_as S accepted κ w (done O c o) ++ serial_from
          S (waits_as S accepted κ w (done O c o)) (run O now cs)) (after O now cs)
      unfolding serves_as waits_as Keeping
      turn opening q =
          let f = law-of O L opening c (d.cells (key c)) o y q a in
          served-at (bare now (length ls')) (bare d (length ls)) _ _ (bare-now f.1)
          (ih (put K (key c) (done O c o ∷ []) w) ls' ks' (inv-put (done O c o ∷ [])
          (λ g. subst (λ (t : Option Table). Held O (key c) t (done O c o ∷ []) y) (sym f.1)
          (held_first O c o (d.cells (key c)).learned y
          (subst (λ (p : Option Page). act c (cell (d.cells (key c)).learned p) ≡ accept o y) f.0 a) f.1 g))
          (λ g. room-then f.0 g)
          (λ g. begins (done O c o) refl q refl)))
      turn band q =
          let f = law-of O L band c (d.cells (key c)) o y q a in
          served-at (bare now (length ls')) (bare d (length ls)) _ _ (bare-now f.1)
          (ih (put K (key c) (w (key c) ++ (done O c o ∷ [])) w) ls' ks' (inv-put (w (key c) ++ (done O c o ∷ []))
          (λ g. subst (λ (t : Option Table). Held O (key c) t (w (key c) ++ (done O c o ∷ [])) y) (sym f.1)
          (held_more O c o (d.cells (key c)).learned (w (key c)) (d.cells (key c)) y (inv.held (key c) f.0)
          f.0 a))
          (λ g. inv.room (key c) f.0)
          (λ g. goes_on (w (key c)) (done O c o) (inv.begun (key c) f.0) refl q refl)))
      turn closing q =
          let f = law-of O L closing c (d.cells (key c)) o y q a in
          served-page (key c) (d.cells (key c)).learned (w (key c) ++ (done O c o ∷ [])) _ y (bare d (length ls)) _
          (held_more O c o (d.cells (key c)).learned (w (key c)) (d.cells (key c)) y (inv.held (key c) f.0)
          f.0 a)
          (ready f.0)
          (page (key c) (w (key c)) (done O c o) _ (inv.begun (key c) f.0) refl q refl)
          (served-at (bare now (length ls')) (store O (bare d (length ls)) (key c) y) _ _ (bare-put y f.1 refl)
          (ih (put K (key c) [] w) ls' ks' (inv-put [] (λ g. no-given f.1 g) (λ g. no-given f.1 g)
          (λ g. no-given f.1 g))))
      turn abandoning q =
          let f = law-of O L abandoning c (d.cells (key c)) o y q a in
          served-at (bare now (length ls')) (bare d (length ls)) _ _ (bare-now f.0) (ih (put K (key c) [] w) ls' ks'
          (inv-put [] (λ g. no-given f.1 g) (λ g. no-given f.1 g) (λ g. no-given f.1 g)))
      turn looking q =
          let f = law-of O L looking c (d.cells (key c)) o y q a in
          served-one c o _ (shut (d.cells (key c))) (bare d (length ls)) _ (look-bare (f.1 none))
          (page-none O (bare d (length ls)) (key c) (shut (d.cells (key c))) refl) (place_same (length ls))
          (look (done O c o) _ refl q)
          (served-at (bare now (length ls')) (store O (bare d (length ls)) (key c) (shut (d.cells (key c)))) _ _
          (bare-put (shut (d.cells (key c))) refl (ap (λ (z : Cell Table Page). z.learned) (sym f.0)))
          (ih w ls' ks'
          (inv-keep (subst (λ (z : Cell Table Page). given z.page ≡ true → Held O (key c) z.learned
          (w (key c)) z) (sym f.0) (inv.held (key c)))
          (subst (λ (z : Cell Table Page). given z.page ≡ true → 0 < pages) (sym f.0) (inv.room (key c)))
          (subst (λ (z : Cell Table Page). given z.page ≡ true → Begun S (key c) (w (key c))) (sym f.0)
          (inv.begun (key c))))))
      turn changing q =
          let f = law-of O L changing c (d.cells (key c)) o y q a in
          served-one c o _ y (bare d (length ls)) _ (change-bare f.0) (page-none O (bare d (length ls)) (key c) y
          f.1) (place-bare f.0) (change (done O c o) _ refl q)
          (served-at (bare now (length ls')) (store O (bare d (length ls)) (key c) y) _ _ (bare-put y f.1 refl)
          (ih w ls' ks' (inv-keep (λ g. no-given f.1 g) (λ g. no-given f.1 g) (λ g. no-given f.1 g))))

  -- the invariant leads through any run
  through : (L : Laws O) (cs : List Call) (d : Desk O) (w : Waiting S) (ls ks : List Key) → Inv d w ls ks
      → Served (bare d (length ls)) (serial_from S w (run O d cs)) (after O d cs)
  unfolding run after serial_from calls serves_as waits_as bare
  through L [] d w ls ks i = record { whole = nothing; answers = refl; tables = λ k. refl }
  through L (c ∷ cs) d w ls ks i = go (step O d c) (step_is O d c) (λ d' w' ls' ks' i'. through L cs d' w' ls' ks' i')
    where
      go : (r : Outcome O) → Step O d c r → ((d' : Desk O) (w' : Waiting S) (ls' ks' : List Key) → Inv d' w' ls' ks'
          → Served (bare d' (length ls')) (serial_from S w' (run O d' cs)) (after O d' cs))
          → Served (bare d (length ls)) (serves_as S r.mark (kind c) w (entry O c r) ++ serial_from S
          (waits_as S r.mark (kind c) w (entry O c r)) (run O r.desk cs)) (after O r.desk cs)
      go r (was-refused o e) ih = ih d w ls ks i
      go r (was-crowded o p y e n) ih = ih d w ls ks i
      go r (was-accepted o y a np nq) ih = turn d c o y a np nq w ls ks i L cs (ih (store O d (key c) y)) (kind c) refl

  -- ---- any run of calls, from a new desk
  pub serialisation : (L : Laws O) (cs : List Call) → Served (new_desk O) (serial S (run O (new_desk O) cs))
      (after O (new_desk O) cs)
  unfolding serial bare
  serialisation L cs = through L cs (new_desk O) (λ k. []) [] [] (record {
    tally = record {
      count = refl;
      below = omega arith;
      learnt = λ j h. no_way (sym h);
      reserved =
          λ j h. no_way (sym h);
    };
    held = λ j h. no_way (sym h);
    room = λ j h. no_way (sym h);
    begun = λ j h. no_way (sym h);
  })
