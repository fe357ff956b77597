-- Document 01: "Source document 000's table agrees after its left shift of three places." Assumes nothing.
use Rattle.std.specs.Prelude.{ℕ, zero, suc, ◌-◌, ◌*◌, List, [], ◌∷◌}
use Rattle.estimate.specs.Estimate.{row_of, entry_of, rise, fall, flip}

-- a row there: its value, the next rows after the expected and after the unexpected pel, and whether the sense is
-- switched (1) then
pub record Row : Type 0 where
  pub size : ℕ
  pub up : ℕ
  pub down : ℕ
  pub switch : ℕ

-- a row by its four numbers
abbrev row : ℕ → ℕ → ℕ → ℕ → Row
row size up down switch = record { size = size; up = up; down = down; switch = switch }

-- source document 000, table 3, index 0 to 29
unfoldable pub source : List Row
source =
    row 0x5608 1 0 1 ∷ row 0x5408 2 0 0 ∷ row 0x5008 3 1 0 ∷ row 0x4808 4 2 0 ∷ row 0x3808 5 3 0
    ∷ row 0x3408 6 4 0 ∷ row 0x3008 7 5 0 ∷ row 0x2808 8 5 0 ∷ row 0x2408 9 6 0 ∷ row 0x2208 10 7 0
    ∷ row 0x1C08 11 8 0 ∷ row 0x1808 12 9 0 ∷ row 0x1608 13 10 0 ∷ row 0x1408 14 11 0 ∷ row 0x1208 15 12 0
    ∷ row 0x0C08 16 13 0 ∷ row 0x0908 17 14 0 ∷ row 0x0708 18 15 0 ∷ row 0x0508 19 16 0 ∷ row 0x0388 20 17 0
    ∷ row 0x02C8 21 18 0 ∷ row 0x0298 22 19 0 ∷ row 0x0138 23 20 0 ∷ row 0x00B8 24 21 0 ∷ row 0x0098 25 21 0
    ∷ row 0x0058 26 23 0 ∷ row 0x0038 27 23 0 ∷ row 0x0028 28 25 0 ∷ row 0x0018 29 25 0 ∷ row 0x0008 29 27 0 ∷ []

-- the same by document 01's rules; a sense of 0 that flips is 1
unfoldable pub ruled : ℕ → Row
ruled i = row (8 * row_of (entry_of i 0)) (rise i) (i - fall i) (flip i 0)

-- n numbers from i on
unfoldable pub numbers_from : ℕ → ℕ → List ℕ
numbers_from i zero = []
numbers_from i (suc n) = i ∷ numbers_from (suc i) n
