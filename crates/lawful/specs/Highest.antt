-- The highest byte of a list. Assumes nothing.
use Rattle.std.specs.Prelude.{ℕ, max, Bool, cond, List, [], ◌∷◌, leb, eqb}
use Rattle.desk.specs.Lawful.{all}

unfoldable pub highest_from : ℕ → List ℕ → ℕ
highest_from h [] = h
highest_from h (x ∷ xs) = highest_from (max h x) xs

-- every byte is at most n
abbrev pub low : ℕ → List ℕ → Bool
low n xs = all (λ x. leb x n) xs

-- the highest entry that a place's table may have
abbrev pub top_entry : ℕ → ℕ
top_entry state = cond (eqb state 2) 59 0
