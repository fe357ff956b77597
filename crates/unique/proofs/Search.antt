-- Among all lists of n bytes, one that a test takes, or none where it takes none. Assumes nothing.
use mathlib.Core.Path.{◌≡◌, refl, sym, ap, ◌∙◌}
use mathlib.Core.Bool.{Bool, true, false, cond}
use mathlib.Core.Option.{Option, some, none}
use mathlib.Core.List.{List, [], ◌∷◌}
use Prim.Native.Nat.{ℕ, zero, suc, ◌≤◌, ◌<◌}
use native.Mathlib.Decide.{dec_lt}
use native.Mathlib.Omega.{arith}
use lib.ListN.{get_or, length}
use Rattle.ground.proofs.Bools.{no_way}
use Rattle.unique.specs.Search.{first_of, values, before, search}

module _ (top : ℕ) where
  -- what a search must answer
  abbrev pub Fits : ℕ → (List ℕ → Bool) → Option (List ℕ) → Type 0
  Fits n test (some l) = (length l ≡ n) × ((i : ℕ) → get_or l i 0 ≤ top) × (test l ≡ true)
  Fits n test none = (l : List ℕ) → length l ≡ n → ((i : ℕ) → get_or l i 0 ≤ top) → test l ≡ true → ⊥

  module _ (n : ℕ) (test : List ℕ → Bool) where
    -- with a first number below m
    abbrev Below : ℕ → Option (List ℕ) → Type 0
    Below m (some l) = (length l ≡ suc n) × ((i : ℕ) → get_or l i 0 ≤ top) × (test l ≡ true)
    Below m none = (v : ℕ) (l : List ℕ) → v < m → length l ≡ n → ((i : ℕ) → get_or l i 0 ≤ top) → test (v ∷ l) ≡ true → ⊥

    -- with the first number v
    abbrev At : ℕ → Option (List ℕ) → Type 0
    At v (some l) = (length l ≡ suc n) × ((i : ℕ) → get_or l i 0 ≤ top) × (test l ≡ true)
    At v none = (l : List ℕ) → length l ≡ n → ((i : ℕ) → get_or l i 0 ≤ top) → test (v ∷ l) ≡ true → ⊥

    join : (m : ℕ) (o p : Option (List ℕ)) → Below m o → At m p → Below (suc m) (first_of o p)
    unfolding first_of
    join m (some l) p a b = a
    join m none (some l) a b = b
    join m none none a b = λ v l h. go v l h (dec_lt v m)
      where
        go : (v : ℕ) (l : List ℕ) → v < suc m → Dec (v < m) → length l ≡ n → ((i : ℕ) → get_or l i 0 ≤ top)
            → test (v ∷ l) ≡ true → ⊥
        go v l h (yes k) = a v l k
        go v l h (no k) = let e : v ≡ m = omega arith in λ s o t. b l s o (ap (λ (w : ℕ). test (w ∷ l)) (sym e) ∙ t)

    below : (m : ℕ) (f : ℕ → Option (List ℕ)) → ((v : ℕ) → v < m → At v (f v)) → Below m (values m f)
    unfolding values
    below zero f h = λ v l k. absurd (omega arith)
    below (suc m) f h = join m (values m f) (f m) (below m f (λ v k. h v (omega arith))) (h m (omega arith))

    first : (v : ℕ) (l : List ℕ) → v ≤ top → ((i : ℕ) → get_or l i 0 ≤ top) → (i : ℕ) → get_or (v ∷ l) i 0 ≤ top
    first v l h o zero = h
    first v l h o (suc i) = o i

    lead : (v : ℕ) (o : Option (List ℕ)) → v ≤ top → Fits n (λ l. test (v ∷ l)) o → At v (before v o)
    unfolding before
    lead v (some l) h a = (ap suc a.0, first v l h a.1, a.2)
    lead v none h a = a

    whole : (o : Option (List ℕ)) → Below (suc top) o → Fits (suc n) test o
    whole (some l) a = a
    whole none a = all
      where
        all : (l : List ℕ) → length l ≡ suc n → ((i : ℕ) → get_or l i 0 ≤ top) → test l ≡ true → ⊥
        all [] s o t = absurd (omega arith)
        all (v ∷ l) s o t = let h : v ≤ top = o 0 in a v l (omega arith) (omega arith) (λ i. o (suc i)) t

  -- the search answers what it must
  pub found : (n : ℕ) (test : List ℕ → Bool) → Fits n test (search top n test)
  unfolding search
  found zero test = go (test []) refl
    where
      empty : (i : ℕ) → get_or [] i 0 ≤ top
      empty i = omega arith

      go : (b : Bool) → test [] ≡ b → Fits zero test (cond b (some []) none)
      go true e = (refl, empty, e)
      go false e = all
        where
          all : (l : List ℕ) → length l ≡ 0 → ((i : ℕ) → get_or l i 0 ≤ top) → test l ≡ true → ⊥
          all [] s o t = no_way (sym t ∙ e)
          all (v ∷ l) s o t = absurd (omega arith)
  found (suc n) test = whole n test (values (suc top) f)
      (below n test (suc top) f (λ v h. lead n test v (search top n (λ l. test (v ∷ l))) (omega arith)
      (found n (λ l. test (v ∷ l)))))
    where
      f : ℕ → Option (List ℕ)
      f v = before v (search top n (λ l. test (v ∷ l)))
