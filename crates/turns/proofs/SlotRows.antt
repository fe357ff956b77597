-- Slots changed at the first one that passes a test, as an array of structs is changed at the index found. Assumes
-- nothing.
use mathlib.Core.Path.{◌≡◌, refl, sym, ap}
use mathlib.Core.Bool.{Bool, true, false, cond}
use mathlib.Core.List.{List, [], ◌∷◌, map}
use mathlib.Core.Option.{Option, some, none}
use Rattle.ground.specs.Options.{given}
use Rattle.turns.specs.Service.{Keys, KeyLaws}
use Rattle.turns.proofs.Slots.{Named, Slots, named, find, erase, replace, insert, update, update_by}

-- a in the place of the first element that passes the test
unfoldable pub at_first : {A : Type 0} → (A → Bool) → A → List A → List A
at_first t a [] = []
at_first t a (b ∷ s) = cond (t b) (a ∷ s) (b ∷ at_first t a s)

-- seen through a view
pub map_first : {A B : Type 0} (f : A → B) (t : B → Bool) (a : A) (s : List A) → map f (at_first (λ x. t (f x)) a s)
    ≡ at_first t (f a) (map f s)
unfolding at_first
map_first f t a [] = refl
map_first f t a (b ∷ s) = go (t (f b)) (map_first f t a s)
  where
    go : (v : Bool) → map f (at_first (λ x. t (f x)) a s) ≡ at_first t (f a) (map f s)
        → map f (cond v (a ∷ s) (b ∷ at_first (λ x. t (f x)) a s)) ≡ cond v (f a ∷ map f s)
        (f b ∷ at_first t (f a) (map f s))
    go true ih = refl
    go false ih = ap (λ l. f b ∷ l) ih

module _ (K : Keys) (A : Type 0) where
  open K use {Key, same}

  abbrev pub has_name : Key → Option (Named K A) → Bool
  has_name k none = false
  has_name k (some n) = same n.name k

  abbrev pub is_free : Option (Named K A) → Bool
  is_free none = true
  is_free (some n) = false

  erase-first : (k : Key) (s : Slots K A) → erase K A k s ≡ at_first (has_name k) none s
  unfolding erase at_first
  erase-first k [] = refl
  erase-first k (none ∷ s) = ap (λ l. none ∷ l) (erase-first k s)
  erase-first k (some n ∷ s) = rw (erase-first k s)

  replace-first : (k : Key) (v : A) (s : Slots K A) → replace K A k v s ≡ at_first (has_name k) (named K A k v) s
  unfolding replace at_first
  replace-first k v [] = refl
  replace-first k v (none ∷ s) = ap (λ l. none ∷ l) (replace-first k v s)
  replace-first k v (some n ∷ s) = rw (replace-first k v s)

  insert-first : (k : Key) (v : A) (s : Slots K A) → insert K A k v s ≡ at_first is_free (named K A k v) s
  unfolding insert at_first
  insert-first k v [] = refl
  insert-first k v (none ∷ s) = refl
  insert-first k v (some n ∷ s) = ap (λ l. some n ∷ l) (insert-first k v s)

  -- a change of the key's own slot; of no slot of its own: the lowest free one is taken
  pub update-free : (k : Key) (s : Slots K A) → given (find K A k s) ≡ true → update K A k none s ≡ at_first
      (has_name k) none s
  unfolding update update_by
  update-free k s e = rw e (erase-first k s)

  pub update-new : (k : Key) (v : A) (s : Slots K A) → given (find K A k s) ≡ true → update K A k (some v) s ≡ at_first
      (has_name k) (named K A k v) s
  unfolding update update_by
  update-new k v s e = rw e (replace-first k v s)

  pub update-take : (k : Key) (v : A) (s : Slots K A) → given (find K A k s) ≡ false → update K A k (some v) s
      ≡ at_first is_free (named K A k v) s
  unfolding update update_by
  update-take k v s e = rw e (insert-first k v s)

  -- where the test of names has its laws
  module _ (L : KeyLaws Key same) where
    open L use {same_only}

    -- what stood there put back: nothing changes
    replace-same : (k : Key) (v : A) (s : Slots K A) → find K A k s ≡ some v → replace K A k v s ≡ s
    unfolding find replace
    replace-same k v [] h = refl
    replace-same k v (none ∷ s) h = ap (λ l. none ∷ l) (replace-same k v s h)
    replace-same k v (some n ∷ s) h = go (same n.name k) refl h (replace-same k v s)
      where
        go : (b : Bool) → same n.name k ≡ b → cond b (some n.value) (find K A k s) ≡ some v
            → (find K A k s ≡ some v → replace K A k v s ≡ s) → cond b (named K A k v ∷ s) (some n ∷ replace K A k v s)
            ≡ some n ∷ s
        go true e h ih = let q : n.value ≡ v = cc in
            λ i. some (record { name = sym (same_only n.name k e) i; value = sym q i }) ∷ s
        go false e h ih = ap (λ l. some n ∷ l) (ih h)

    pub update_same : (k : Key) (o : Option A) (s : Slots K A) → find K A k s ≡ o → update K A k o s ≡ s
    unfolding update update_by
    update_same k none s e = rw e
    update_same k (some v) s e = rw e (replace-same k v s e)
