-- What `serial` does to any list of calls with answers: the order it keeps, and that keys do not meet in it. Assumes
-- nothing.
use mathlib.Core.Path.{◌≡◌, refl, sym, ap, ◌∙◌}
use mathlib.Core.Bool.{Bool, true, false}
use mathlib.Core.List.{List, [], ◌∷◌, ◌++◌}
use Rattle.turns.specs.Service.{Kind, opening, band, closing, abandoning, looking, changing, Mark, accepted}
use Rattle.turns.specs.Service.{refused, crowded, Service, KeyLaws, keys, put, Entry}
use Rattle.turns.specs.Serial.{Waiting, waits_as, serves_as, serial_from, serial}
use Rattle.turns.specs.Base.{keep}
use Rattle.turns.proofs.Base.{put-each}
use Rattle.ground.proofs.Bools.{no_way}
use Rattle.turns.specs.Order.{stands_as, standing, of_key}

module _ (S : Service) (L : KeyLaws S.Key S.same) where
  open S use {Key, same, key, kind}
  open L use {same_self, same_only}

  keep_append : {A : Type 0} (v : Bool) (e : A) (es fs : List A) → keep v e (es ++ fs) ≡ keep v e es ++ fs
  keep_append true e es fs = refl
  keep_append false e es fs = refl

  standing-append : (es fs : List (Entry S)) → standing S (es ++ fs) ≡ standing S es ++ standing S fs
  unfolding standing
  standing-append [] fs = refl
  standing-append (e ∷ es) fs = ap (λ l. keep (stands_as S e.mark (kind e.call)) e l) (standing-append es fs)
      ∙ keep_append (stands_as S e.mark (kind e.call)) e (standing S es) (standing S fs)

  -- the waiting lists hold no standing call
  abbrev Quiet : Waiting S → Type 0
  Quiet w = (k : Key) → standing S (w k) ≡ []

  serves-standing : (m : Mark) (κ : Kind) (w : Waiting S) (e : Entry S) → e.mark ≡ m → kind e.call ≡ κ → Quiet w
      → standing S (serves_as S m κ w e) ≡ keep (stands_as S m κ) e []
  unfolding serves_as standing
  serves-standing refused κ w e p q h = refl
  serves-standing crowded κ w e p q h = refl
  serves-standing accepted opening w e p q h = refl
  serves-standing accepted band w e p q h = refl
  serves-standing accepted closing w e p q h =
      standing-append (w (key e.call)) (e ∷ []) ∙ rw (h (key e.call), p, q)
  serves-standing accepted abandoning w e p q h = refl
  serves-standing accepted looking w e p q h = rw (p, q)
  serves-standing accepted changing w e p q h = rw (p, q)

  waits-quiet : (m : Mark) (κ : Kind) (w : Waiting S) (e : Entry S) → e.mark ≡ m → kind e.call ≡ κ → Quiet w
      → Quiet (waits_as S m κ w e)
  unfolding waits_as standing
  waits-quiet refused κ w e p q h = h
  waits-quiet crowded κ w e p q h = h
  waits-quiet accepted opening w e p q h =
      put-each (keys S) L (λ j l. standing S l ≡ []) (key e.call) (e ∷ []) w (rw (p, q)) (λ j n. h j)
  waits-quiet accepted band w e p q h = put-each (keys S) L (λ j l. standing S l ≡ []) (key e.call)
      (w (key e.call) ++ (e ∷ [])) w (standing-append (w (key e.call)) (e ∷ []) ∙ rw (h (key e.call), p, q))
      (λ j n. h j)
  waits-quiet accepted closing w e p q h =
      put-each (keys S) L (λ j l. standing S l ≡ []) (key e.call) [] w refl (λ j n. h j)
  waits-quiet accepted abandoning w e p q h =
      put-each (keys S) L (λ j l. standing S l ≡ []) (key e.call) [] w refl (λ j n. h j)
  waits-quiet accepted looking w e p q h = h
  waits-quiet accepted changing w e p q h = h

  order_from : (es : List (Entry S)) (w : Waiting S) → Quiet w → standing S (serial_from S w es) ≡ standing S es
  unfolding serial_from standing
  order_from [] w h = refl
  order_from (e ∷ es) w h =
      standing-append (serves_as S e.mark (kind e.call) w e)
      (serial_from S (waits_as S e.mark (kind e.call) w e) es)
      ∙ rw (
        serves-standing e.mark (kind e.call) w e refl refl h,
        order_from es
            (waits_as S e.mark (kind e.call) w e) (waits-quiet e.mark (kind e.call) w e refl refl h),
      )
      (sym (keep_append (stands_as S e.mark (kind e.call)) e [] (standing S es)))

  pub in_order_lem : (es : List (Entry S)) → standing S (serial S es) ≡ standing S es
  unfolding serial standing
  in_order_lem es = order_from es (λ k. []) (λ k. refl)

  -- ---- one key: what the serial order has of a key is the serial order of that key's own calls
  module _ (k : Key) where
    of_key-append : (es fs : List (Entry S)) → of_key S k (es ++ fs) ≡ of_key S k es ++ of_key S k fs
    unfolding of_key
    of_key-append [] fs = refl
    of_key-append (e ∷ es) fs = ap (λ l. keep (same (key e.call) k) e l) (of_key-append es fs) ∙ keep_append
        (same (key e.call) k) e (of_key S k es) (of_key S k fs)

    -- the waiting lists w beside those of the key alone, u
    record Beside (w u : Waiting S) : Type 0 where
      own : of_key S k (w k) ≡ u k
      others : (j : Key) → same j k ≡ false → of_key S k (w j) ≡ []

    -- a call of the key
    own-serves : (m : Mark) (κ : Kind) (w u : Waiting S) (e : Entry S) → key e.call ≡ k → Beside w u
        → of_key S k (serves_as S m κ w e) ≡ serves_as S m κ u e
    unfolding serves_as of_key
    own-serves refused κ w u e q h = refl
    own-serves crowded κ w u e q h = refl
    own-serves accepted opening w u e q h = refl
    own-serves accepted band w u e q h = refl
    own-serves accepted closing w u e q h = of_key-append (w (key e.call)) (e ∷ []) ∙ rw (q, h.own, same_self k)
    own-serves accepted abandoning w u e q h = refl
    own-serves accepted looking w u e q h = rw (q, same_self k)
    own-serves accepted changing w u e q h = rw (q, same_self k)

    beside-put : (w u : Waiting S) (j : Key) (l m : List (Entry S)) → j ≡ k → of_key S k l ≡ m → Beside w u
        → Beside (put (keys S) j l w) (put (keys S) j m u)
    beside-put w u j l m q e h = record {
      own = rw (q, same_self k) e;
      others = λ i n. put-each (keys S) L (λ i l. same i k ≡ false → of_key S k l ≡ []) j l w
          (λ n. no_way (sym (same_self k) ∙ ap (λ (z : Key). same z k) (sym q) ∙ n)) (λ i f. h.others i) i n;
    }

    own-waits : (m : Mark) (κ : Kind) (w u : Waiting S) (e : Entry S) → key e.call ≡ k → Beside w u
        → Beside (waits_as S m κ w e) (waits_as S m κ u e)
    unfolding waits_as of_key
    own-waits refused κ w u e q h = h
    own-waits crowded κ w u e q h = h
    own-waits accepted opening w u e q h = beside-put w u (key e.call) (e ∷ []) (e ∷ []) q (rw (q, same_self k)) h
    own-waits accepted band w u e q h = beside-put w u (key e.call) (w (key e.call) ++ (e ∷ []))
        (u (key e.call) ++ (e ∷ [])) q (of_key-append (w (key e.call)) (e ∷ []) ∙ rw (q, h.own, same_self k)) h
    own-waits accepted closing w u e q h = beside-put w u (key e.call) [] [] q refl h
    own-waits accepted abandoning w u e q h = beside-put w u (key e.call) [] [] q refl h
    own-waits accepted looking w u e q h = h
    own-waits accepted changing w u e q h = h

    -- a call of another key
    other-serves : (m : Mark) (κ : Kind) (w u : Waiting S) (e : Entry S) → same (key e.call) k ≡ false → Beside w u
        → of_key S k (serves_as S m κ w e) ≡ []
    unfolding serves_as of_key
    other-serves refused κ w u e q h = refl
    other-serves crowded κ w u e q h = refl
    other-serves accepted opening w u e q h = refl
    other-serves accepted band w u e q h = refl
    other-serves accepted closing w u e q h =
        of_key-append (w (key e.call)) (e ∷ []) ∙ rw (h.others (key e.call) q, q)
    other-serves accepted abandoning w u e q h = refl
    other-serves accepted looking w u e q h = rw q
    other-serves accepted changing w u e q h = rw q

    beside-other : (w u : Waiting S) (j : Key) (l : List (Entry S)) → same j k ≡ false → of_key S k l ≡ []
        → Beside w u → Beside (put (keys S) j l w) u
    beside-other w u j l q e h = record {
      own = rw q h.own;
      others = λ i n. put-each (keys S) L (λ i l. same i k ≡ false → of_key S k l ≡ []) j l w (λ n. e)
          (λ i f. h.others i) i n;
    }

    other-waits : (m : Mark) (κ : Kind) (w u : Waiting S) (e : Entry S) → same (key e.call) k ≡ false → Beside w u
        → Beside (waits_as S m κ w e) u
    unfolding waits_as of_key
    other-waits refused κ w u e q h = h
    other-waits crowded κ w u e q h = h
    other-waits accepted opening w u e q h = beside-other w u (key e.call) (e ∷ []) q (rw q) h
    other-waits accepted band w u e q h = beside-other w u (key e.call) (w (key e.call) ++ (e ∷ [])) q
        (of_key-append (w (key e.call)) (e ∷ []) ∙ rw (h.others (key e.call) q, q)) h
    other-waits accepted closing w u e q h = beside-other w u (key e.call) [] q refl h
    other-waits accepted abandoning w u e q h = beside-other w u (key e.call) [] q refl h
    other-waits accepted looking w u e q h = h
    other-waits accepted changing w u e q h = h

    key-from : (es : List (Entry S)) (w u : Waiting S) → Beside w u → of_key S k (serial_from S w es) ≡ serial_from S u
        (of_key S k es)
    unfolding serial_from of_key
    key-from [] w u h = refl
    key-from (e ∷ es) w u h = of_key-append (serves_as S e.mark (kind e.call) w e)
        (serial_from S (waits_as S e.mark (kind e.call) w e) es)
        ∙ go (same (key e.call) k) refl (λ u' h'. key-from es (waits_as S e.mark (kind e.call) w e) u' h')
      where
        go : (v : Bool) → same (key e.call) k ≡ v
            → ((u' : Waiting S) → Beside (waits_as S e.mark (kind e.call) w e) u'
            → of_key S k (serial_from S (waits_as S e.mark (kind e.call) w e) es) ≡ serial_from S u'
            (of_key S k es))
            → of_key S k (serves_as S e.mark (kind e.call) w e) ++ of_key S k
            (serial_from S (waits_as S e.mark (kind e.call) w e) es) ≡ serial_from S u
            (keep v e (of_key S k es))
        go true f ih = let q : key e.call ≡ k = same_only (key e.call) k f in
            rw (
              own-serves e.mark (kind e.call) w u e q h,
              ih (waits_as S e.mark (kind e.call) u e)
                  (own-waits e.mark (kind e.call) w u e q h),
            )
        go false f ih = rw (other-serves e.mark (kind e.call) w u e f h)
            (ih u (other-waits e.mark (kind e.call) w u e f h))

    pub one_key : (es : List (Entry S)) → of_key S k (serial S es) ≡ serial S (of_key S k es)
    unfolding serial of_key
    one_key es = key-from es (λ j. []) (λ j. []) (record { own = refl; others = λ j n. refl })
