-- The own calls of a key's pages stand in the serial order as they stand in what is left: none lost, none doubled, none
-- exchanged. Assumes nothing.
use mathlib.Core.Path.{◌≡◌, refl, sym, ap, ◌∙◌, subst}
use mathlib.Core.Bool.{Bool, true, false, cond, ◌&&◌}
use mathlib.Core.List.{List, [], ◌∷◌, ◌++◌, append_assoc}
use Rattle.turns.specs.Service.{Kind, opening, band, closing, abandoning, looking, changing, Mark, accepted}
use Rattle.turns.specs.Service.{refused, crowded}
use Rattle.turns.specs.Service.{Service, KeyLaws, keys, put, Entry}
use Rattle.turns.specs.Serial.{Waiting, waits_as, serves_as, serial_from, serial}
use Rattle.turns.specs.Strike.{strike, closed_in, left_as, fate_as}
use Rattle.turns.specs.Base.{keep}
use Rattle.turns.proofs.Base.{put-each}
use Rattle.ground.proofs.Bools.{no_way}
use Rattle.turns.specs.Own.{own_kind, own}

module _ (S : Service) (L : KeyLaws S.Key S.same) (k : S.Key) where
  open S use {Key, same, key, kind}
  open L use {same_self, same_only}

  keep_append : (v : Bool) (e : Entry S) (es fs : List (Entry S)) → keep v e (es ++ fs) ≡ keep v e es ++ fs
  keep_append true e es fs = refl
  keep_append false e es fs = refl

  own-append : (es fs : List (Entry S)) → own S k (es ++ fs) ≡ own S k es ++ own S k fs
  unfolding own
  own-append [] fs = refl
  own-append (e ∷ es) fs = ap (λ l. keep (same (key e.call) k && own_kind (kind e.call)) e l) (own-append es fs)
      ∙ keep_append (same (key e.call) k && own_kind (kind e.call)) e (own S k es) (own S k fs)

  own_in : (e : Entry S) (es : List (Entry S)) → key e.call ≡ k → own_kind (kind e.call) ≡ true
      → own S k (e ∷ es) ≡ e ∷ own S k es
  unfolding own
  own_in e es q o = rw (q, same_self k, o)

  own-not : (e : Entry S) (es : List (Entry S)) → same (key e.call) k ≡ false → own S k (e ∷ es) ≡ own S k es
  unfolding own
  own-not e es q = rw q

  own-table : (e : Entry S) (es : List (Entry S)) → own_kind (kind e.call) ≡ false → own S k (e ∷ es) ≡ own S k es
  unfolding own
  own-table e es o = rw o (go (same (key e.call) k))
    where
      go : (b : Bool) → keep (b && false) e (own S k es) ≡ own S k es
      go true = refl
      go false = refl

  own-none : own S k [] ≡ []
  unfolding own
  own-none = refl

  -- what waits under k is k's own, what waits under another is not
  record Fit (w : Waiting S) : Type 0 where
    self : own S k (w k) ≡ w k
    others : (j : Key) → same j k ≡ false → own S k (w j) ≡ []

  fit-own : (w : Waiting S) (j : Key) (l : List (Entry S)) → j ≡ k → own S k l ≡ l → Fit w → Fit (put (keys S) j l w)
  fit-own w j l q o h = record {
    self = rw (q, same_self k) o;
    others = λ i n. put-each (keys S) L (λ i l. same i k ≡ false → own S k l ≡ []) j l w
        (λ n. no_way (sym (same_self k) ∙ ap (λ (z : Key). same z k) (sym q) ∙ n)) (λ i f. h.others i) i n;
  }

  fit-other : (w : Waiting S) (j : Key) (l : List (Entry S)) → same j k ≡ false → own S k l ≡ [] → Fit w
      → Fit (put (keys S) j l w)
  fit-other w j l q o h = record {
    self = rw q h.self;
    others = λ i n. put-each (keys S) L (λ i l. same i k ≡ false → own S k l ≡ []) j l w (λ n. o) (λ i f. h.others i)
        i n;
  }

  put-at : (w : Waiting S) (j : Key) (l : List (Entry S)) → j ≡ k → put (keys S) j l w k ≡ l
  put-at w j l q = rw (q, same_self k)

  put-off : (w : Waiting S) (j : Key) (l : List (Entry S)) → same j k ≡ false → put (keys S) j l w k ≡ w k
  put-off w j l q = rw q

  none-cond : (b : Bool) (l : List (Entry S)) → cond {A = List (Entry S)} b [] [] ++ l ≡ l
  none-cond true l = refl
  none-cond false l = refl

  module _ (e : Entry S) (es : List (Entry S)) (w : Waiting S) (h : Fit w)
      (ih : (w' : Waiting S) → Fit w' → own S k (serial_from S w' es) ≡ cond (closed_in S k es) (w' k) [] ++ own S k
      (strike S es)) where
    abbrev Goal : Mark → Kind → Bool → Type 0
    Goal m κ v = own S k (serves_as S m κ w e ++ serial_from S (waits_as S m κ w e) es) ≡ cond
        (fate_as v m κ (closed_in S k es)) (w k) [] ++ own S k
        (keep (left_as m κ (closed_in S (key e.call) es)) e (strike S es))

    -- a call of k
    mine : (m : Mark) (κ : Kind) → kind e.call ≡ κ → key e.call ≡ k → Goal m κ true
    unfolding serves_as waits_as own
    mine refused κ p q = ih w h
    mine crowded κ p q = ih w h
    mine accepted opening p q =
        ih (put (keys S) (key e.call) (e ∷ []) w) (fit-own w (key e.call) (e ∷ []) q
        (own_in e [] q (ap own_kind p)) h)
        ∙ rw (put-at w (key e.call) (e ∷ []) q) (go (closed_in S k es) (closed_in S (key e.call) es)
        (ap (λ (j : Key). closed_in S j es) (sym q)))
      where
        go : (b b' : Bool) → b ≡ b' → cond b (e ∷ []) [] ++ own S k (strike S es) ≡ own S k
            (keep b' e (strike S es))
        go true true f = sym (own_in e (strike S es) q (ap own_kind p))
        go false false f = refl
        go true false f = no_way f
        go false true f = no_way (sym f)
    mine accepted band p q =
        ih (put (keys S) (key e.call) (w (key e.call) ++ (e ∷ [])) w)
        (fit-own w (key e.call) (w (key e.call) ++ (e ∷ [])) q fits h)
        ∙ rw (put-at w (key e.call) (w (key e.call) ++ (e ∷ [])) q)
        (go (closed_in S k es) (closed_in S (key e.call) es) (ap (λ (j : Key). closed_in S j es) (sym q)))
      where
        fits : own S k (w (key e.call) ++ (e ∷ [])) ≡ w (key e.call) ++ (e ∷ [])
        fits = own-append (w (key e.call)) (e ∷ []) ∙ ap (λ l. l ++ own S k (e ∷ []))
            (subst (λ (j : Key). own S k (w j) ≡ w j) (sym q) h.self)
            ∙ ap (λ l. w (key e.call) ++ l) (own_in e [] q (ap own_kind p))

        go : (b b' : Bool) → b ≡ b'
            → cond b (w (key e.call) ++ (e ∷ [])) [] ++ own S k (strike S es) ≡ cond b (w k) [] ++ own S k
            (keep b' e (strike S es))
        go true true f = append_assoc (w (key e.call)) (e ∷ []) (own S k (strike S es))
            ∙ ap (λ (j : Key). w j ++ (e ∷ own S k (strike S es))) q
            ∙ ap (λ l. w k ++ l) (sym (own_in e (strike S es) q (ap own_kind p)))
        go false false f = refl
        go true false f = no_way f
        go false true f = no_way (sym f)
    mine accepted closing p q =
        own-append (w (key e.call) ++ (e ∷ [])) (serial_from S (put (keys S) (key e.call) [] w) es)
        ∙ ap (λ l. l ++ own S k (serial_from S (put (keys S) (key e.call) [] w) es))
        (own-append (w (key e.call)) (e ∷ []) ∙ ap (λ l. l ++ own S k (e ∷ []))
        (subst (λ (j : Key). own S k (w j) ≡ w j) (sym q) h.self) ∙ ap
        (λ l. w (key e.call) ++ l) (own_in e [] q (ap own_kind p)))
        ∙ ap (λ l. (w (key e.call) ++ (e ∷ [])) ++ l)
        (ih (put (keys S) (key e.call) [] w) (fit-own w (key e.call) [] q own-none h) ∙ ap
        (λ l. cond (closed_in S k es) l [] ++ own S k (strike S es)) (put-at w (key e.call) [] q)
        ∙ none-cond (closed_in S k es) (own S k (strike S es)))
        ∙ append_assoc (w (key e.call)) (e ∷ []) (own S k (strike S es))
        ∙ ap (λ (j : Key). w j ++ (e ∷ own S k (strike S es))) q
        ∙ ap (λ l. w k ++ l) (sym (own_in e (strike S es) q (ap own_kind p)))
    mine accepted abandoning p q =
        ih (put (keys S) (key e.call) [] w) (fit-own w (key e.call) [] q own-none h)
        ∙ ap (λ l. cond (closed_in S k es) l [] ++ own S k (strike S es)) (put-at w (key e.call) [] q)
        ∙ none-cond (closed_in S k es) (own S k (strike S es))
    mine accepted looking p q = own-table e (serial_from S w es) (ap own_kind p) ∙ ih w h
        ∙ ap (λ l. cond (closed_in S k es) (w k) [] ++ l) (sym (own-table e (strike S es) (ap own_kind p)))
    mine accepted changing p q = own-table e (serial_from S w es) (ap own_kind p) ∙ ih w h
        ∙ ap (λ l. cond (closed_in S k es) (w k) [] ++ l) (sym (own-table e (strike S es) (ap own_kind p)))

    -- a call of another key
    left_out : (b : Bool) → same (key e.call) k ≡ false → own S k (strike S es) ≡ own S k
        (keep b e (strike S es))
    left_out true n = sym (own-not e (strike S es) n)
    left_out false n = refl

    page-out : same (key e.call) k ≡ false → own S k (w (key e.call) ++ (e ∷ [])) ≡ []
    page-out n = own-append (w (key e.call)) (e ∷ []) ∙ ap (λ l. l ++ own S k (e ∷ []))
        (h.others (key e.call) n) ∙ own-not e [] n ∙ own-none

    after-put : (l : List (Entry S)) (b : Bool) → same (key e.call) k ≡ false → own S k l ≡ []
        → own S k (serial_from S (put (keys S) (key e.call) l w) es) ≡ cond (closed_in S k es) (w k) [] ++ own S k
        (keep b e (strike S es))
    after-put l b n o =
        ih (put (keys S) (key e.call) l w) (fit-other w (key e.call) l n o h)
        ∙ ap (λ z. cond (closed_in S k es) z [] ++ own S k (strike S es)) (put-off w (key e.call) l n)
        ∙ ap (λ z. cond (closed_in S k es) (w k) [] ++ z) (left_out b n)

    theirs : (m : Mark) (κ : Kind) → same (key e.call) k ≡ false → Goal m κ false
    unfolding serves_as waits_as
    theirs refused κ n = ih w h
    theirs crowded κ n = ih w h
    theirs accepted opening n = after-put (e ∷ []) (closed_in S (key e.call) es) n (own-not e [] n ∙ own-none)
    theirs accepted band n = after-put (w (key e.call) ++ (e ∷ [])) (closed_in S (key e.call) es) n (page-out n)
    theirs accepted closing n =
        own-append (w (key e.call) ++ (e ∷ [])) (serial_from S (put (keys S) (key e.call) [] w) es)
        ∙ ap (λ l. l ++ own S k (serial_from S (put (keys S) (key e.call) [] w) es)) (page-out n) ∙ after-put []
        true n own-none
    theirs accepted abandoning n = after-put [] false n own-none
    theirs accepted looking n =
        own-not e (serial_from S w es) n ∙ ih w h ∙ ap (λ z. cond (closed_in S k es) (w k) [] ++ z) (left_out true n)
    theirs accepted changing n =
        own-not e (serial_from S w es) n ∙ ih w h ∙ ap (λ z. cond (closed_in S k es) (w k) [] ++ z) (left_out true n)

    either : (v : Bool) → same (key e.call) k ≡ v → Goal e.mark (kind e.call) v
    either true f = mine e.mark (kind e.call) refl (same_only (key e.call) k f)
    either false f = theirs e.mark (kind e.call) f

  own-from : (es : List (Entry S)) (w : Waiting S) → Fit w → own S k (serial_from S w es) ≡ cond (closed_in S k es)
      (w k) [] ++ own S k (strike S es)
  unfolding serial_from strike closed_in
  own-from [] w h = refl
  own-from (e ∷ es) w h = either e es w h (λ w' h'. own-from es w' h') (same (key e.call) k) refl

  -- ---- the own calls of k's pages, each in its place
  pub own_order : (es : List (Entry S)) → own S k (serial S es) ≡ own S k (strike S es)
  unfolding serial
  own_order es = own-from es (λ j. []) (record { self = own-none; others = λ j n. own-none })
      ∙ none-cond (closed_in S k es) (own S k (strike S es))
