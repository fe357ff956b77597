-- Eight bytes of a row as one number, its first pel on top. Assumes nothing.
use Rattle.std.specs.Prelude.{◌≡◌, ℕ, ◌+◌, ◌-◌, ◌*◌, ◌/◌, ◌%◌, ◌^◌, ◌<◌, List}
use Rattle.template.specs.Pels.{pel_at}

-- the 8 n pels from the byte k on
pub record Word (row : List ℕ) (k n w : ℕ) : Type 0 where
  pub small : w < 2 ^ (8 * n)
  pub pels : (i : ℕ) → i < 8 * n → w / 2 ^ (8 * n - 1 - i) % 2 ≡ pel_at row (8 * k + i)
