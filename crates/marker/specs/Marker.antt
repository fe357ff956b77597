-- Request E4: a marker in a Q code. Assumes nothing.
use Rattle.std.specs.Prelude.{ℕ, Bool, false, ◌&&◌, ◌||◌, List, [], ◌∷◌, eqb, leb}

-- There is a marker: somewhere a byte of 90 or more stands just after an FF. A last FF with nothing behind it is none.
unfoldable pub marked : List ℕ → Bool
marked [] = false
marked (a ∷ []) = false
marked (a ∷ b ∷ bs) = (eqb a 0xFF && leb 0x90 b) || marked (b ∷ bs)
