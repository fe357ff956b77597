-- Document 01, "Pels, rows and the seven neighbours". Assumes nothing.
use Rattle.std.specs.Prelude.{ℕ, zero, suc, ◌+◌, ◌-◌, ◌*◌, ◌/◌, ◌%◌, ◌^◌, Bool, true, cond, ◌&&◌, List, [], ◌∷◌, ◌++◌, get_or, take, drop, ltb, eqb}

-- Each row is padded to a whole byte.
abbrev pub row_bytes : ℕ → ℕ
row_bytes width = (width + 7) / 8

-- Rows are packed with the leftmost pel in the top bit.
unfoldable pub pel_at : List ℕ → ℕ → ℕ
pel_at row x = get_or row (x / 8) 0 / 2 ^ (7 - x % 8) % 2

-- the first n pels of a packed row
unfoldable pub pels_to : List ℕ → ℕ → List ℕ
pels_to row zero = []
pels_to row (suc n) = pels_to row n ++ (pel_at row n ∷ [])

-- the packed row y of a band
abbrev pub row_at : ℕ → List ℕ → ℕ → List ℕ
row_at width band y = take (row_bytes width) (drop (y * row_bytes width) band)

-- the pels of a band's first n rows, row by row
unfoldable pub band_to : ℕ → List ℕ → ℕ → List ℕ
band_to width band zero = []
band_to width band (suc n) = band_to width band n ++ pels_to (row_at width band n) width

-- Each row is padded with zero bits.
unfoldable pub row_padded : ℕ → List ℕ → Bool
row_padded width row = eqb (get_or row (row_bytes width - 1) 0 % 2 ^ (8 * row_bytes width - width)) 0

-- Each of a band's first n rows is padded so.
unfoldable pub band_padded : ℕ → List ℕ → ℕ → Bool
band_padded width band zero = true
band_padded width band (suc n) = band_padded width band n && row_padded width (row_at width band n)

-- the pel d to the left of x, of a row's pels: outside the left edge a neighbour is 0
unfoldable pub left_of : List ℕ → ℕ → ℕ → ℕ
left_of row x d = cond (ltb x d) 0 (get_or row (x - d) 0)

-- the pel d to the right of x, of a row's pels: outside the right edge a neighbour is 0
unfoldable pub right_of : List ℕ → ℕ → ℕ → ℕ
right_of row x d = get_or row (x + d) 0

-- The context of the pel at x is a sum of weights for black neighbours:
-- same row x-1: 1, x-2: 2; row above x+2: 4, x+1: 8, x: 16, x-1: 32, x-2: 64.
unfoldable pub context : List ℕ → List ℕ → ℕ → ℕ
context above this x =
    1 * left_of this x 1 + 2 * left_of this x 2
    + 4 * right_of above x 2 + 8 * right_of above x 1 + 16 * right_of above x 0 + 32 * left_of above x 1 + 64 *
    left_of above x 2
