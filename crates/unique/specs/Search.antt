-- Among all lists of n bytes, the first that a test takes. Assumes nothing.
use Rattle.std.specs.Prelude.{Bool, cond, List, [], ◌∷◌, ℕ, zero, suc}
use Rattle.std.proofs.Math.Option.{Option, some, none}

-- the first that is there
unfoldable pub first_of : Option (List ℕ) → Option (List ℕ) → Option (List ℕ)
first_of (some l) p = some l
first_of none p = p

-- a byte before a list
unfoldable pub before : ℕ → Option (List ℕ) → Option (List ℕ)
before v (some l) = some (v ∷ l)
before v none = none

-- what is found for one of the values below m
unfoldable pub values : ℕ → (ℕ → Option (List ℕ)) → Option (List ℕ)
values zero f = none
values (suc m) f = first_of (values m f) (f m)

-- a list of n numbers up to top that the test takes
unfoldable pub search : ℕ → ℕ → (List ℕ → Bool) → Option (List ℕ)
search top zero test = cond (test []) (some []) none
search top (suc n) test = values (suc top) (λ v. before v (search top n (λ l. test (v ∷ l))))
