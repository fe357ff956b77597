-- What each number of the table does to the lent output. Assumes nothing.
use mathlib.Core.Path.{◌≡◌, refl}
use Prim.Native.Nat.{ℕ}
use mathlib.Core.List.{List, [], ◌∷◌, map}
use Rattle.store.specs.Store.{cleared}
use Rattle.desk.specs.Refusals.{order, lent_after}

-- in the table's order: 12 to 8 leave it as it is; 9, 15 and 10 set all of it to zero
pub each_lent : (out : List ℕ) → map (λ (n : ℕ). lent_after n out) order
    ≡ out ∷ out ∷ out ∷ out ∷ out ∷ out ∷ out ∷ out ∷ out ∷ out ∷ out
    ∷ cleared out ∷ cleared out ∷ cleared out ∷ []
unfolding lent_after
each_lent out = refl
