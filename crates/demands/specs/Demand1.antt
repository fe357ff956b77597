-- Demand 1 of the calls: what it is to be refused, by a number of the table. Assumes nothing.
use Rattle.std.specs.Prelude.{◌≡◌, Bool, false, ◌||◌, List, [], ◌∷◌, ℕ, eqb}
use Rattle.desk.specs.Desk.{Desk, Outcome}
use Rattle.desk.specs.Refusals.{lent_after}
use Rattle.desk.specs.Calls.{Call, lent_to}

-- ---- a number of the table
-- the number n stands in a list
unfoldable pub is_in : ℕ → List ℕ → Bool
is_in n [] = false
is_in n (m ∷ ms) = eqb n m || is_in n ms

-- what a refusal is: length 0, S = 0, no pel revisited, the desk as it was, the lent output as its number says
pub record Refused (d : Desk) (c : Call) (r : Outcome) (after : List ℕ) : Type 0 where
  pub length : r.answer.length ≡ 0
  pub shifts : r.answer.shifts ≡ 0
  pub revisits : r.answer.revisits ≡ 0
  pub desk : r.desk ≡ d
  pub lent : after ≡ lent_after r.answer.number (lent_to c)
