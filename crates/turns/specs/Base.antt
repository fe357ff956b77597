-- An element in front of a list or left out, and a test counted as 1 or 0. Assumes nothing.
use Rattle.std.specs.Prelude.{Bool, true, false, List, ◌∷◌, ℕ}

-- a before l, or l alone
abbrev pub keep : {A : Type 0} → Bool → A → List A → List A
keep true a l = a ∷ l
keep false a l = l

-- 1 for true, 0 for false
abbrev pub one : Bool → ℕ
one true = 1
one false = 0
