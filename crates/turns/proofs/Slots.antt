-- A row of slots, each free or with a name and a value; the lowest free slot is always the one taken. Assumes nothing.
use mathlib.Core.Path.{◌≡◌, refl, sym, ap, ◌∙◌}
use mathlib.Core.Bool.{Bool, true, false, ◌&&◌, not, cond}
use mathlib.Core.List.{List, [], ◌∷◌}
use mathlib.Core.Option.{Option, some, none}
use Prim.Native.Nat.{ℕ, suc, ◌+◌, ◌-◌, ◌≤◌}
use native.Mathlib.Omega.{arith}
use lib.Dec.{leb}
use lib.ListN.{length}
use borrow.Author.Tests.{lt-leb}
use Rattle.ground.proofs.Options.{none-given}
use Rattle.ground.specs.Options.{given}
use Rattle.turns.specs.Service.{Keys, KeyLaws}
use Rattle.turns.specs.Base.{one}
use Rattle.ground.proofs.Bools.{no_way}

module _ (K : Keys) (A : Type 0) where
  open K use {Key, same}

  pub record Named : Type 0 where
    pub name : Key
    pub value : A

  abbrev pub Slots : Type 0
  Slots = List (Option Named)

  abbrev pub named : Key → A → Option Named
  named k a = some (record { name = k; value = a })

  unfoldable pub find : Key → Slots → Option A
  find k [] = none
  find k (none ∷ s) = find k s
  find k (some n ∷ s) = cond (same n.name k) (some n.value) (find k s)

  unfoldable pub erase : Key → Slots → Slots
  erase k [] = []
  erase k (none ∷ s) = none ∷ erase k s
  erase k (some n ∷ s) = cond (same n.name k) (none ∷ s) (some n ∷ erase k s)

  unfoldable pub replace : Key → A → Slots → Slots
  replace k a [] = []
  replace k a (none ∷ s) = none ∷ replace k a s
  replace k a (some n ∷ s) = cond (same n.name k) (named k a ∷ s) (some n ∷ replace k a s)

  unfoldable pub insert : Key → A → Slots → Slots
  insert k a [] = []
  insert k a (none ∷ s) = named k a ∷ s
  insert k a (some n ∷ s) = some n ∷ insert k a s

  -- the slot of k, if there is one: freed or changed; else the lowest free one is taken
  unfoldable pub update_by : Bool → Key → Option A → Slots → Slots
  update_by true k none s = erase k s
  update_by true k (some a) s = replace k a s
  update_by false k none s = s
  update_by false k (some a) s = insert k a s

  unfoldable pub update : Key → Option A → Slots → Slots
  update k o s = update_by (given (find k s)) k o s

  unfoldable pub used : Slots → ℕ
  used [] = 0
  used (none ∷ s) = used s
  used (some n ∷ s) = suc (used s)

  unfoldable pub free : Slots → Bool
  free [] = false
  free (none ∷ s) = true
  free (some n ∷ s) = free s

  -- different names
  unfoldable pub Lone : Slots → Type 0
  Lone [] = Unit
  Lone (none ∷ s) = Lone s
  Lone (some n ∷ s) = (find n.name s ≡ none) × Lone s

  -- ---- found after another name is inserted
  find-insert : (k j : Key) (a : A) (s : Slots) → same k j ≡ false → find j (insert k a s) ≡ find j s
  unfolding find insert
  find-insert k j a [] n = refl
  find-insert k j a (none ∷ s) n = rw n
  find-insert k j a (some m ∷ s) n = rw (find-insert k j a s n)

  -- ---- how many slots are in use
  used-erase : (k : Key) (s : Slots) → given (find k s) ≡ true → used s ≡ suc (used (erase k s))
  unfolding find erase used
  used-erase k [] h = no_way (sym h)
  used-erase k (none ∷ s) h = used-erase k s h
  used-erase k (some m ∷ s) h = go (same m.name k) (used-erase k s) h
    where
      go : (v : Bool) → (given (find k s) ≡ true → used s ≡ suc (used (erase k s)))
          → given (cond v (some m.value) (find k s)) ≡ true
          → suc (used s) ≡ suc (used (cond v (none ∷ s) (some m ∷ erase k s)))
      go true ih h = refl
      go false ih h = ap suc (ih h)

  used-replace : (k : Key) (a : A) (s : Slots) → used (replace k a s) ≡ used s
  unfolding replace used
  used-replace k a [] = refl
  used-replace k a (none ∷ s) = used-replace k a s
  used-replace k a (some m ∷ s) = go (same m.name k) (used-replace k a s)
    where
      go : (v : Bool) → used (replace k a s) ≡ used s → used (cond v (named k a ∷ s) (some m ∷ replace k a s))
          ≡ suc (used s)
      go true ih = refl
      go false ih = ap suc ih

  used-insert : (k : Key) (a : A) (s : Slots) → free s ≡ true → used (insert k a s) ≡ suc (used s)
  unfolding insert used free
  used-insert k a [] f = no_way (sym f)
  used-insert k a (none ∷ s) f = refl
  used-insert k a (some m ∷ s) f = ap suc (used-insert k a s f)

  -- ---- how many slots there are
  length-erase : (k : Key) (s : Slots) → length (erase k s) ≡ length s
  unfolding erase
  length-erase k [] = refl
  length-erase k (none ∷ s) = ap suc (length-erase k s)
  length-erase k (some m ∷ s) = go (same m.name k) (length-erase k s)
    where
      go : (v : Bool) → length (erase k s) ≡ length s → length (cond v (none ∷ s) (some m ∷ erase k s)) ≡ suc (length s)
      go true ih = refl
      go false ih = ap suc ih

  length-replace : (k : Key) (a : A) (s : Slots) → length (replace k a s) ≡ length s
  unfolding replace
  length-replace k a [] = refl
  length-replace k a (none ∷ s) = ap suc (length-replace k a s)
  length-replace k a (some m ∷ s) = go (same m.name k) (length-replace k a s)
    where
      go : (v : Bool) → length (replace k a s) ≡ length s → length (cond v (named k a ∷ s) (some m ∷ replace k a s))
          ≡ suc (length s)
      go true ih = refl
      go false ih = ap suc ih

  length-insert : (k : Key) (a : A) (s : Slots) → length (insert k a s) ≡ length s
  unfolding insert
  length-insert k a [] = refl
  length-insert k a (none ∷ s) = refl
  length-insert k a (some m ∷ s) = ap suc (length-insert k a s)

  -- no slot is free exactly where as many are used as there are
  used_le : (s : Slots) → used s ≤ length s
  unfolding used
  used_le [] = omega arith
  used_le (none ∷ s) = omega (arith, used_le s)
  used_le (some m ∷ s) = omega (arith, used_le s)

  pub full : (s : Slots) → not (free s) ≡ leb (length s) (used s)
  unfolding used free
  full [] = refl
  full (none ∷ s) = sym (lt-leb (suc (length s)) (used s) (omega (arith, used_le s)))
  full (some m ∷ s) = full s ∙ sym (lib.Dec.leb-suc-suc (length s) (used s))

  -- ---- all of a change
  pub record Updated (k : Key) (o : Option A) (s s' : Slots) : Type 0 where
    pub self : find k s' ≡ o
    pub other : (j : Key) → same k j ≡ false → find j s' ≡ find j s
    pub lone : Lone s'
    pub size : length s' ≡ length s
    pub count : used s' ≡ used s + one (given o) - one (given (find k s))

  -- where the test of names has its laws
  module _ (L : KeyLaws Key same) where
    open L use {same_self, same_only}

    same-flip : (j k : Key) → same j k ≡ false → same k j ≡ false
    same-flip j k h = go (same k j) refl
      where
        go : (v : Bool) → same k j ≡ v → v ≡ false
        go true e = no_way (sym (same_self j) ∙ ap (same j) (sym (same_only k j e)) ∙ h)
        go false e = refl

    -- ---- found after a change: another name
    find-erase : (k j : Key) (s : Slots) → same k j ≡ false → find j (erase k s) ≡ find j s
    unfolding find erase
    find-erase k j [] n = refl
    find-erase k j (none ∷ s) n = find-erase k j s n
    find-erase k j (some m ∷ s) n = go (same m.name k) refl (find-erase k j s n)
      where
        go : (v : Bool) → same m.name k ≡ v → find j (erase k s) ≡ find j s
            → find j (cond v (none ∷ s) (some m ∷ erase k s)) ≡ cond (same m.name j) (some m.value) (find j s)
        go true e ih = rw (same_only m.name k e, n)
        go false e ih = rw ih

    find-replace : (k j : Key) (a : A) (s : Slots) → same k j ≡ false → find j (replace k a s) ≡ find j s
    unfolding find replace
    find-replace k j a [] n = refl
    find-replace k j a (none ∷ s) n = find-replace k j a s n
    find-replace k j a (some m ∷ s) n = go (same m.name k) refl (find-replace k j a s n)
      where
        go : (v : Bool) → same m.name k ≡ v → find j (replace k a s) ≡ find j s
            → find j (cond v (named k a ∷ s) (some m ∷ replace k a s)) ≡ cond (same m.name j) (some m.value)
            (find j s)
        go true e ih = rw (same_only m.name k e, n)
        go false e ih = rw ih

    -- the name itself
    own-erase : (k : Key) (s : Slots) → Lone s → find k (erase k s) ≡ none
    unfolding find erase Lone
    own-erase k [] l = refl
    own-erase k (none ∷ s) l = own-erase k s l
    own-erase k (some m ∷ s) l = go (same m.name k) refl (own-erase k s l.1)
      where
        go : (v : Bool) → same m.name k ≡ v → find k (erase k s) ≡ none
            → find k (cond v (none ∷ s) (some m ∷ erase k s)) ≡ none
        go true e ih = rw (← same_only m.name k e) l.0
        go false e ih = rw e ih

    own-replace : (k : Key) (a : A) (s : Slots) → given (find k s) ≡ true → find k (replace k a s) ≡ some a
    unfolding find replace
    own-replace k a [] h = no_way (sym h)
    own-replace k a (none ∷ s) h = own-replace k a s h
    own-replace k a (some m ∷ s) h = go (same m.name k) refl (own-replace k a s) h
      where
        go : (v : Bool) → same m.name k ≡ v → (given (find k s) ≡ true → find k (replace k a s) ≡ some a)
            → given (cond v (some m.value) (find k s)) ≡ true
            → find k (cond v (named k a ∷ s) (some m ∷ replace k a s)) ≡ some a
        go true e ih h = rw (same_self k)
        go false e ih h = rw e (ih h)

    own-insert : (k : Key) (a : A) (s : Slots) → given (find k s) ≡ false → free s ≡ true → find k (insert k a s) ≡ some a
    unfolding find insert free
    own-insert k a [] h f = no_way (sym f)
    own-insert k a (none ∷ s) h f = rw (same_self k)
    own-insert k a (some m ∷ s) h f = go (same m.name k) h (λ g. own-insert k a s g f)
      where
        go : (v : Bool) → given (cond v (some m.value) (find k s)) ≡ false
            → (given (find k s) ≡ false → find k (insert k a s) ≡ some a)
            → cond v (some m.value) (find k (insert k a s)) ≡ some a
        go true h ih = no_way h
        go false h ih = ih h

    -- ---- different names stay different
    lone-erase : (k : Key) (s : Slots) → Lone s → Lone (erase k s)
    unfolding find erase Lone
    lone-erase k [] l = l
    lone-erase k (none ∷ s) l = lone-erase k s l
    lone-erase k (some m ∷ s) l = go (same m.name k) refl (lone-erase k s l.1)
      where
        go : (v : Bool) → same m.name k ≡ v → Lone (erase k s) → Lone (cond v (none ∷ s) (some m ∷ erase k s))
        go true e ih = l.1
        go false e ih = (find-erase k m.name s (same-flip m.name k e) ∙ l.0, ih)

    lone-replace : (k : Key) (a : A) (s : Slots) → Lone s → Lone (replace k a s)
    unfolding find replace Lone
    lone-replace k a [] l = l
    lone-replace k a (none ∷ s) l = lone-replace k a s l
    lone-replace k a (some m ∷ s) l = go (same m.name k) refl (lone-replace k a s l.1)
      where
        go : (v : Bool) → same m.name k ≡ v → Lone (replace k a s)
            → Lone (cond v (named k a ∷ s) (some m ∷ replace k a s))
        go true e ih = (rw (← same_only m.name k e) l.0, l.1)
        go false e ih = (find-replace k m.name a s (same-flip m.name k e) ∙ l.0, ih)

    lone-insert : (k : Key) (a : A) (s : Slots) → given (find k s) ≡ false → Lone s → Lone (insert k a s)
    unfolding find insert Lone
    lone-insert k a [] h l = l
    lone-insert k a (none ∷ s) h l = (none-given (find k s) h, l)
    lone-insert k a (some m ∷ s) h l = go (same m.name k) refl h (λ g. lone-insert k a s g l.1)
      where
        go : (v : Bool) → same m.name k ≡ v → given (cond v (some m.value) (find k s)) ≡ false
            → (given (find k s) ≡ false → Lone (insert k a s)) → (find m.name (insert k a s) ≡ none)
            × Lone (insert k a s)
        go true e h ih = no_way h
        go false e h ih = (find-insert k m.name a s (same-flip m.name k e) ∙ l.0, ih h)

    pub updated : (k : Key) (o : Option A) (s : Slots) → Lone s → ((not (given (find k s)) && given o) && not (free s))
        ≡ false → Updated k o s (update k o s)
    unfolding update update_by
    updated k o s l r = go (given (find k s)) o refl r
      where
        is_free_lem : (v : Bool) → not v ≡ false → v ≡ true
        is_free_lem true h = refl
        is_free_lem false h = sym h

        go : (v : Bool) (o : Option A) → given (find k s) ≡ v → ((not v && given o) && not (free s)) ≡ false
            → Updated k o s (update_by v k o s)
        go true none e r =
            record {
              self = own-erase k s l;
              other = λ j n. find-erase k j s n;
              lone = lone-erase k s l;
              size = length-erase k s;
              count = rw e (omega (arith, used-erase k s e));
            }
        go true (some a) e r = record {
          self = own-replace k a s e;
          other = λ j n. find-replace k j a s n;
          lone = lone-replace k a s l;
          size = length-replace k a s;
          count = rw (e, used-replace k a s) (omega arith);
        }
        go false none e r = record {
          self = none-given (find k s) e;
          other = λ j n. refl;
          lone = l;
          size = refl;
          count = rw e (omega arith);
        }
        go false (some a) e r =
            record {
              self = own-insert k a s e (is_free_lem (free s) r);
              other = λ j n. find-insert k j a s n;
              lone = lone-insert k a s e l;
              size = length-insert k a s;
              count = rw (e, used-insert k a s (is_free_lem (free s) r)) (omega arith);
            }
