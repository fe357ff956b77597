-- A rule of a table: one test that is computed over the whole table gives the rule at each entry. Assumes nothing.
use mathlib.Core.Bool.{Bool, true, false, ◌&&◌}
use mathlib.Core.List.{List, [], ◌∷◌}
use Prim.Native.Nat.{ℕ, zero, suc, ◌+◌, ◌<◌}
use native.Mathlib.Nat.{add-zero, zero-add, add-suc, suc-add}
use native.Mathlib.Omega.{arith}
use lib.Dec.{T}
use lib.ListN.{length, get_or}

pub and_left : (a b : Bool) → T (a && b) → T a
and_left true b t = tt
and_left false b t = t

pub and_right : (a b : Bool) → T (a && b) → T b
and_right true b t = t
and_right false b t = absurd t

-- the test passes at each entry, with its place counted from i
abbrev pub every : (ℕ → ℕ → Bool) → ℕ → List ℕ → Bool
every test i [] = true
every test i (x ∷ xs) = test i x && every test (suc i) xs

from : (test : ℕ → ℕ → Bool) (d : ℕ) (xs : List ℕ) (i : ℕ) → T (every test i xs) → (k : ℕ) → k < length xs
    → T (test (i + k) (get_or xs k d))
from test d [] i t k h = absurd (omega arith)
from test d (x ∷ xs) i t zero h = rw add-zero (and_left (test i x) (every test (suc i) xs) t)
from test d (x ∷ xs) i t (suc k) h =
    rw (add-suc, ← suc-add) (from test d xs (suc i) (and_right (test i x) (every test (suc i) xs) t) k (omega arith))

-- (d is what get_or gives past the end)
pub at_each : (test : ℕ → ℕ → Bool) (d : ℕ) (xs : List ℕ) → T (every test 0 xs) → (k : ℕ) → k < length xs
    → T (test k (get_or xs k d))
at_each test d xs t k h = rw zero-add at (from test d xs 0 t k h)
