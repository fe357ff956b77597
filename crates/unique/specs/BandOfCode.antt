-- Among all bands of that width and height, the one that is written as those bytes. Assumes nothing.
use Rattle.std.specs.Prelude.{Bool, true, false, ◌&&◌, List, [], ◌∷◌, ℕ, ◌*◌, eqb}
use Rattle.std.proofs.Math.Option.{Option}
use Rattle.template.specs.Pels.{row_bytes, band_padded}
use Rattle.band.specs.Band.{written}
use Rattle.unique.specs.Search.{search}

-- two lists with the same bytes
unfoldable pub same_bytes : List ℕ → List ℕ → Bool
same_bytes [] [] = true
same_bytes [] (y ∷ b) = false
same_bytes (x ∷ a) [] = false
same_bytes (x ∷ a) (y ∷ b) = eqb x y && same_bytes a b

-- a padded band that is written as the code
unfoldable pub written_so : ℕ → ℕ → List ℕ → List ℕ → List ℕ → List ℕ → Bool
written_so width rows table last code band =
    band_padded width band rows && same_bytes (written width rows table last band).code code

-- the band that is found, among all lists of that many bytes
unfoldable pub band_of_code : ℕ → ℕ → List ℕ → List ℕ → List ℕ → Option (List ℕ)
band_of_code width rows table last code = search 255 (rows * row_bytes width) (written_so width rows table last code)
