-- The serial order has exactly the calls that are left, each as often: nothing is lost and nothing doubled. Assumes
-- nothing.
use mathlib.Core.Path.{◌≡◌, refl, sym, ap, ◌∙◌}
use mathlib.Core.Bool.{Bool, true, false, cond}
use mathlib.Core.List.{List, [], ◌∷◌, ◌++◌}
use Prim.Native.Nat.{ℕ, ◌+◌}
use native.Mathlib.Omega.{arith}
use Rattle.turns.specs.Service.{Kind, opening, band, closing, abandoning, looking, changing, Mark, accepted}
use Rattle.turns.specs.Service.{refused, crowded, Service, KeyLaws, keys, put, Entry}
use Rattle.turns.specs.Base.{one}
use Rattle.turns.specs.Serial.{Waiting, waits_as, serves_as, serial_from, serial}
use Rattle.turns.specs.Base.{keep}
use Rattle.turns.proofs.Base.{put-each}
use Rattle.turns.specs.Strike.{count, weight, fate_as, left_as, closed_in, strike}

module _ (S : Service) (L : KeyLaws S.Key S.same) where
  open S use {Key, same, key, kind}
  open L use {same_self, same_only}

  module _ (k : Key) (t : Entry S → Bool) where
    count-append : (es fs : List (Entry S)) → count S k t (es ++ fs) ≡ count S k t es + (count S k t) fs
    unfolding count
    count-append [] fs = omega arith
    count-append (e ∷ es) fs = rw (count-append es fs) (omega arith)

    count-keep : (b : Bool) (e : Entry S) (es : List (Entry S)) → count S k t (keep b e es) ≡ cond b
        (weight S k t e) 0 + (count S k t) es
    unfolding count
    count-keep true e es = refl
    count-keep false e es = omega arith

    -- lists that wait under another key hold nothing of k
    abbrev Apart : Waiting S → Type 0
    Apart w = (j : Key) → same j k ≡ false → count S k t (w j) ≡ 0

    num-none : (b : Bool) → ◌≡◌ {A = ℕ} (cond b 0 0) 0
    num-none true = refl
    num-none false = refl

    num-band : (b : Bool) (x y : ℕ) → 0 + cond b (x + (y + 0)) 0 ≡ cond b y 0 + cond b x 0
    num-band true x y = omega arith
    num-band false x y = omega arith

    num-open : (b : Bool) (y : ℕ) → 0 + cond b (y + 0) 0 ≡ cond b y 0 + 0
    num-open true y = omega arith
    num-open false y = omega arith

    -- a call of k
    own_turn : (m : Mark) (κ : Kind) (w : Waiting S) (e : Entry S) (r : Bool) → key e.call ≡ k
        → count S k t (serves_as S m κ w e) + cond r (count S k t (waits_as S m κ w e k)) 0 ≡ cond (left_as m κ r)
        (one (t e)) 0 + cond (fate_as true m κ r) (count S k t (w k)) 0
    unfolding serves_as waits_as count
    own_turn refused κ w e r q = omega arith
    own_turn crowded κ w e r q = omega arith
    own_turn accepted opening w e r q = rw (q, same_self k, q, same_self k) (num-open r (one (t e)))
    own_turn accepted band w e r q =
        rw (q, same_self k, count-append (w k) (e ∷ []), q, same_self k) (num-band r (count S k t (w k)) (one (t e)))
    own_turn accepted closing w e r q =
        rw (q, same_self k, count-append (w k) (e ∷ []), q, same_self k, num-none r) (omega arith)
    own_turn accepted abandoning w e r q = rw (q, same_self k, num-none r) (omega arith)
    own_turn accepted looking w e r q = rw (q, same_self k) (omega arith)
    own_turn accepted changing w e r q = rw (q, same_self k) (omega arith)

    -- a call of another key
    other-serves : (m : Mark) (κ : Kind) (w : Waiting S) (e : Entry S) → same (key e.call) k ≡ false → Apart w
        → count S k t (serves_as S m κ w e) ≡ 0
    unfolding serves_as count
    other-serves refused κ w e n h = refl
    other-serves crowded κ w e n h = refl
    other-serves accepted opening w e n h = refl
    other-serves accepted band w e n h = refl
    other-serves accepted closing w e n h = count-append (w (key e.call)) (e ∷ []) ∙ rw (h (key e.call) n, n)
    other-serves accepted abandoning w e n h = refl
    other-serves accepted looking w e n h = rw n
    other-serves accepted changing w e n h = rw n

    other-waits : (m : Mark) (κ : Kind) (w : Waiting S) (e : Entry S) → same (key e.call) k ≡ false
        → waits_as S m κ w e k ≡ w k
    unfolding waits_as
    other-waits refused κ w e n = refl
    other-waits crowded κ w e n = refl
    other-waits accepted opening w e n = rw n
    other-waits accepted band w e n = rw n
    other-waits accepted closing w e n = rw n
    other-waits accepted abandoning w e n = rw n
    other-waits accepted looking w e n = refl
    other-waits accepted changing w e n = refl

    apart-put : (w : Waiting S) (j : Key) (l : List (Entry S)) → (same j k ≡ false → count S k t l ≡ 0) → Apart w
        → Apart (put (keys S) j l w)
    apart-put w j l e h = put-each (keys S) L (λ i l. same i k ≡ false → count S k t l ≡ 0) j l w e (λ i f. h i)

    apart-waits : (m : Mark) (κ : Kind) (w : Waiting S) (e : Entry S) → Apart w → Apart (waits_as S m κ w e)
    unfolding waits_as count
    apart-waits refused κ w e h = h
    apart-waits crowded κ w e h = h
    apart-waits accepted opening w e h = apart-put w (key e.call) (e ∷ []) (λ n. rw n) h
    apart-waits accepted band w e h = apart-put w (key e.call) (w (key e.call) ++ (e ∷ []))
        (λ n. count-append (w (key e.call)) (e ∷ []) ∙ rw (h (key e.call) n, n)) h
    apart-waits accepted closing w e h = apart-put w (key e.call) [] (λ n. refl) h
    apart-waits accepted abandoning w e h = apart-put w (key e.call) [] (λ n. refl) h
    apart-waits accepted looking w e h = h
    apart-waits accepted changing w e h = h

    num-go : (s f l x y g a : ℕ) → f ≡ a + x → s + x ≡ l + y → s + f ≡ (l + a) + y
    num-go s f l x y g a p q = omega arith

    count-from : (es : List (Entry S)) (w : Waiting S) → Apart w → count S k t (serial_from S w es) ≡ count S k t
        (strike S es) + cond (closed_in S k es) (count S k t (w k)) 0
    unfolding serial_from strike closed_in count
    count-from [] w h = refl
    count-from (e ∷ es) w h = count-append (serves_as S e.mark (kind e.call) w e)
        (serial_from S (waits_as S e.mark (kind e.call) w e) es)
        ∙ num-go (count S k t (serves_as S e.mark (kind e.call) w e))
        (count S k t (serial_from S (waits_as S e.mark (kind e.call) w e) es))
        (cond (left_as e.mark (kind e.call) (closed_in S (key e.call) es)) (weight S k t e) 0)
        (cond (closed_in S k es) (count S k t (waits_as S e.mark (kind e.call) w e k)) 0)
        (cond (fate_as (same (key e.call) k) e.mark (kind e.call) (closed_in S k es)) (count S k t (w k)) 0)
        0 (count S k t (strike S es))
        (count-from es (waits_as S e.mark (kind e.call) w e) (apart-waits e.mark (kind e.call) w e h))
        (go (same (key e.call) k) refl)
        ∙ ap (λ n. n + cond (fate_as (same (key e.call) k) e.mark (kind e.call) (closed_in S k es))
        (count S k t (w k)) 0)
        (sym (count-keep (left_as e.mark (kind e.call) (closed_in S (key e.call) es)) e (strike S es)))
      where
        go : (v : Bool) → same (key e.call) k ≡ v
            → count S k t (serves_as S e.mark (kind e.call) w e) + cond (closed_in S k es)
            (count S k t (waits_as S e.mark (kind e.call) w e k)) 0
            ≡ cond (left_as e.mark (kind e.call) (closed_in S (key e.call) es)) (cond v (one (t e)) 0) 0 +
            cond (fate_as v e.mark (kind e.call) (closed_in S k es)) (count S k t (w k)) 0
        go true f = let q : key e.call ≡ k = same_only (key e.call) k f in
            own_turn e.mark (kind e.call) w e (closed_in S k es) q
            ∙ ap (λ (j : Key). cond (left_as e.mark (kind e.call) (closed_in S j es)) (one (t e)) 0 + cond
            (fate_as true e.mark (kind e.call) (closed_in S k es)) (count S k t (w k)) 0) (sym q)
        go false f = rw (
          other-serves e.mark (kind e.call) w e f h,
          other-waits e.mark (kind e.call) w e f,
          num-none (left_as e.mark (kind e.call) (closed_in S (key e.call) es)),
        )

    -- ---- exactly what is left
    pub nothing_lost : (es : List (Entry S)) → count S k t (serial S es) ≡ count S k t (strike S es)
    unfolding serial count
    nothing_lost es = count-from es (λ j. []) (λ j n. refl) ∙ last (closed_in S k es)
      where
        last : (b : Bool) → count S k t (strike S es) + cond b 0 0 ≡ count S k t (strike S es)
        last true = omega arith
        last false = omega arith
