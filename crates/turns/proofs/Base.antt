-- Small laws: keys, lists of keys and their lengths, lists of calls, counts. Assumes nothing.
use mathlib.Core.Path.{◌≡◌, refl, sym, ap, ◌∙◌, subst, fun_ext}
use mathlib.Core.Bool.{Bool, true, false, ◌&&◌, not, cond}
use mathlib.Core.List.{List, [], ◌∷◌, ◌++◌}
use mathlib.Core.Option.{Option, some, none}
use Prim.Native.Nat.{ℕ, suc, ◌+◌, ◌-◌, ◌≤◌, ◌<◌}
use native.Mathlib.Omega.{arith}
use lib.Dec.{leb}
use lib.ListN.{length}
use borrow.Author.Tests.{leb-false, lt-leb}
use Rattle.ground.specs.Options.{given}
use Rattle.ground.proofs.Bools.{no_way}
use Rattle.turns.specs.Service.{Keys, KeyLaws, Service, put, Entry, calls}
use Rattle.turns.specs.Base.{one}
use Rattle.turns.proofs.CellDesk.{placed}

pub one-le : (b : Bool) → one b ≤ 1
one-le true = omega arith
one-le false = omega arith

-- a cell is reserved where it has a page and no learned table
abbrev pub only_reserved : {T P : Type 0} → Option T → Option P → Bool
only_reserved (some t) p = false
only_reserved none (some p) = true
only_reserved none none = false

pub placed-sum : {T P : Type 0} (t : Option T) (p : Option P) → one (placed t p) ≡ one (given t) + one
    (only_reserved t p)
placed-sum (some t) p = refl
placed-sum none (some p) = refl
placed-sum none none = refl

pub placed-page : {T P : Type 0} (t : Option T) (p : Option P) → given p ≡ true → placed t p ≡ true
placed-page (some t) p h = refl
placed-page none (some p) h = refl
placed-page none none h = no_way (sym h)

pub placed-none : {T P : Type 0} (t : Option T) (p : Option P) → p ≡ none → placed t p ≡ given t
placed-none (some t) p e = refl
placed-none none (some p) e = no_way (ap given e)
placed-none none none e = refl

pub only-reserved : {T P : Type 0} (t : Option T) (p : Option P) → given t ≡ false → given p ≡ true
    → only_reserved t p ≡ true
only-reserved (some t) p h q = no_way h
only-reserved none (some p) h q = refl
only-reserved none none h q = no_way (sym q)

-- no room is wanted, or there is room
pub room-down : (b : Bool) (p a n : ℕ) → (b && leb p a) ≡ false → n ≤ a → (b && leb p n) ≡ false
room-down false p a n h le = refl
room-down true p a n h le = lt-leb p n (let q : a < p = leb-false p a h in omega arith)

pub room-below : (b b' : Bool) (p a : ℕ) → ((not b && b') && leb p a) ≡ false → a ≤ p → a + one b' - one b ≤ p
room-below true true p a h le = omega arith
room-below true false p a h le = omega arith
room-below false true p a h le = let q : a < p = leb-false p a h in omega arith
room-below false false p a h le = omega arith

module _ (K : Keys) where
  open K use {Key, same}

  pub put-put : {A : Type 0} (k : Key) (a b : A) (f : Key → A) → put K k b (put K k a f) ≡ put K k b f
  put-put {A} k a b f = fun_ext (λ j. go j (same k j))
    where
      go : (j : Key) (v : Bool) → cond v b (cond v a (f j)) ≡ cond v b (f j)
      go j true = refl
      go j false = refl

  -- is k in the list; the list without its first k; the list when k's membership goes from one truth value to another
  unfoldable pub has : Key → List Key → Bool
  has k [] = false
  has k (j ∷ js) = cond (same j k) true (has k js)

  unfoldable pub without : Key → List Key → List Key
  without k [] = []
  without k (j ∷ js) = cond (same j k) js (j ∷ without k js)

  unfoldable pub relist : Key → Bool → Bool → List Key → List Key
  relist k false true js = k ∷ js
  relist k true false js = without k js
  relist k true true js = js
  relist k false false js = js

  has-length : (k : Key) (js : List Key) → has k js ≡ true → length js ≡ suc (length (without k js))
  unfolding has without
  has-length k [] h = no_way (sym h)
  has-length k (j ∷ js) h = go (same j k) h (has-length k js)
    where
      go : (v : Bool) → cond v true (has k js) ≡ true → (has k js ≡ true → length js ≡ suc (length (without k js)))
          → suc (length js) ≡ suc (length (cond v js (j ∷ without k js)))
      go true h r = refl
      go false h r = ap suc (r h)

  pub has_one : (k : Key) (js : List Key) → has k js ≡ true → 1 ≤ length js
  has_one k js h = let e : length js ≡ suc (length (without k js)) = has-length k js h in omega arith

  pub relist-length : (k : Key) (a b : Bool) (js : List Key) → (a ≡ true → has k js ≡ true) → length (relist k a b js)
      ≡ length js + one b - one a
  unfolding relist
  relist-length k false true js h = omega arith
  relist-length k true false js h = let e : length js ≡ suc (length (without k js)) = has-length k js (h refl) in
      omega arith
  relist-length k true true js h = omega arith
  relist-length k false false js h = omega arith

  -- where the test of names has its laws
  module _ (L : KeyLaws Key same) where
    open L use {same_self, same_only}

    pub put_self : {A : Type 0} (k : Key) (a : A) (f : Key → A) → put K k a f k ≡ a
    put_self k a f = rw (same_self k)

    -- what holds of k's new value and of the others' old ones holds of all
    pub put-each : {A : Type 0} (P : Key → A → Type 0) (k : Key) (a : A) (f : Key → A) → P k a
        → ((j : Key) → same k j ≡ false → P j (f j)) → (j : Key) → P j (put K k a f j)
    put-each {A} P k a f h r j = go (same k j) refl
      where
        go : (v : Bool) → same k j ≡ v → P j (cond v a (f j))
        go true e = subst (λ (i : Key). P i a) (same_only k j e) h
        go false e = r j e

    pub put_both : {A B : Type 0} (P : Key → A → B → Type 0) (k : Key) (a : A) (f : Key → A) (b : B) (g : Key → B)
        → P k a b → ((j : Key) → P j (f j) (g j)) → (j : Key) → P j (put K k a f j) (put K k b g j)
    put_both P k a f b g h r j = go (same k j) refl
      where
        go : (v : Bool) → same k j ≡ v → P j (cond v a (f j)) (cond v b (g j))
        go true e = subst (λ (i : Key). P i a b) (same_only k j e) h
        go false e = r j

    has-without : (k j : Key) (js : List Key) → same k j ≡ false → has j js ≡ true → has j (without k js) ≡ true
    unfolding has without
    has-without k j [] n h = h
    has-without k j (i ∷ is) n h = go (same i k) refl (has-without k j is n)
      where
        go : (v : Bool) → same i k ≡ v → (has j is ≡ true → has j (without k is) ≡ true)
            → has j (cond v is (i ∷ without k is)) ≡ true
        go true e r = mine (same i j) refl h
          where
            mine : (u : Bool) → same i j ≡ u → cond u true (has j is) ≡ true → has j is ≡ true
            mine true f h' = no_way (sym f ∙ ap (λ (z : Key). same z j) (same_only i k e) ∙ n)
            mine false f h' = h'
        go false e r = other (same i j) h
          where
            other : (u : Bool) → cond u true (has j is) ≡ true → cond u true (has j (without k is)) ≡ true
            other true h' = refl
            other false h' = r h'

    pub relist-self : (k : Key) (a b : Bool) (js : List Key) → (a ≡ true → has k js ≡ true) → b ≡ true
        → has k (relist k a b js) ≡ true
    unfolding relist has
    relist-self k false true js h y = rw (same_self k)
    relist-self k true false js h y = no_way (sym y)
    relist-self k true true js h y = h refl
    relist-self k false false js h y = no_way (sym y)

    pub relist-other : (k j : Key) (a b : Bool) (js : List Key) → same k j ≡ false → has j js ≡ true
        → has j (relist k a b js) ≡ true
    unfolding relist has
    relist-other k j false true js n h = rw (n, h)
    relist-other k j true false js n h = has-without k j js n h
    relist-other k j true true js n h = h
    relist-other k j false false js n h = h

module _ (S : Service) where
  pub calls-append : (es fs : List (Entry S)) → calls S (es ++ fs) ≡ calls S es ++ calls S fs
  unfolding calls
  calls-append [] fs = refl
  calls-append (e ∷ es) fs = ap (λ l. e.call ∷ l) (calls-append es fs)
