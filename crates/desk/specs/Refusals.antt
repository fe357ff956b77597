-- Document 01, "Refusal numbers, in the order they are tested". Assumes nothing.
use Rattle.std.specs.Prelude.{ℕ, Bool, true, cond, ◌&&◌, ◌||◌, List, [], ◌∷◌, eqb, ltb, length}
use Rattle.store.specs.Store.{cleared}
use Rattle.desk.specs.declared.Refusal.{Refusal}
use Rattle.desk.specs.declared.Refusal.TheVariants as refused

-- a test of a call, and the number that it gives where it holds
pub record Row : Type 0 where
  pub number : ℕ
  pub holds : Bool

-- a test by its number and by whether it holds
abbrev pub row : ℕ → Bool → Row
row n b = record { number = n; holds = b }

-- the number of the first test that holds; 0 where none does
unfoldable pub refusal : List Row → ℕ
refusal [] = 0
refusal (r ∷ rs) = cond r.holds r.number (refusal rs)

-- The table's order. The sizes that need the page's width (pel length) are tested after 7.
abbrev pub order : List ℕ
order = 12 ∷ 1 ∷ 6 ∷ 3 ∷ 2 ∷ 7 ∷ 6 ∷ 11 ∷ 4 ∷ 5 ∷ 8 ∷ 9 ∷ 15 ∷ 10 ∷ []

-- the number of each refusal
abbrev pub number_of : Refusal → ℕ
number_of refused.UnlawfulDesk = 12
number_of refused.KeyOutOfRange = 1
number_of refused.WrongSize = 6
number_of refused.PageOpen = 3
number_of refused.NoPage = 2
number_of refused.OtherDirection = 7
number_of refused.NoTable = 11
number_of refused.PagesFull = 4
number_of refused.PlacesFull = 5
number_of refused.PaddingBit = 8
number_of refused.NoRoom = 9
number_of refused.Marker = 15
number_of refused.Damaged = 10

-- the numbers from n on
unfoldable pub from : ℕ → List ℕ → List ℕ
from n [] = []
from n (m ∷ ms) = cond (eqb n m) (m ∷ ms) (from n ms)

-- the tests' numbers stand in such an order: each is found from the one before it on
unfoldable pub in_order : List Row → List ℕ → Bool
in_order [] ns = true
in_order (r ∷ rs) ns = ltb 0 (length (from r.number ns)) && in_order rs (from r.number ns)

-- the number that says "damaged": 15 where there is a marker in the code, 10 where there is none (request E4)
abbrev pub damage : Bool → ℕ
damage m = cond m 15 10

-- the numbers that say "damaged"
abbrev pub is_damage : ℕ → Bool
is_damage n = eqb n 15 || eqb n 10

-- the numbers that set all of the lent output to zero: "no room" and "damaged"
abbrev pub zeroing : ℕ → Bool
zeroing n = eqb n 9 || is_damage n

-- a refusal leaves the lent output unchanged, or sets all of it to zero
unfoldable pub lent_after : ℕ → List ℕ → List ℕ
lent_after n out = cond (zeroing n) (cleared out) out
