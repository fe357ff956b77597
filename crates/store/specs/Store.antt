-- Lent buffers: a result in the front, the rest kept; all zero; the front part. Assumes nothing.
use Rattle.std.specs.Prelude.{ℕ, zero, suc, cond, List, [], ◌∷◌, ◌++◌, leb, length, take, drop, set, replicate}

-- a result in the front part of a buffer, the rest kept
unfoldable pub in_front : List ℕ → List ℕ → List ℕ
in_front xs out = xs ++ drop (length xs) out

-- all of a buffer zero
unfoldable pub cleared : List ℕ → List ℕ
cleared out = replicate (length out) 0

-- the front part: the first n bytes, or the empty front part where n is more than the buffer's length
unfoldable pub front : ℕ → List ℕ → List ℕ
front n out = cond (leb n (length out)) (take n out) []

-- ---- bytes stored one after the other, the first of all left out; past the end a store does nothing
unfoldable pub store_at : List ℕ → ℕ → ℕ → List ℕ
store_at out zero b = out
store_at out (suc n) b = set out n b

unfoldable pub stores : List ℕ → ℕ → List ℕ → List ℕ
stores out at [] = out
stores out at (b ∷ bs) = stores (store_at out at b) (suc at) bs
