-- Every element from one on passes. Assumes nothing.
use Rattle.std.specs.Prelude.{Bool, true, ◌&&◌, List, [], ◌∷◌}

-- every element passes beside those after it
unfoldable pub each : {A : Type 0} → (A → List A → Bool) → List A → Bool
each right [] = true
each right (x ∷ xs) = right x xs && each right xs
