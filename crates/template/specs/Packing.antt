-- A row packed pel by pel into zero bytes. Assumes nothing.
use Rattle.std.specs.Prelude.{◌≡◌, ℕ, ◌-◌, ◌/◌, ◌%◌, ◌^◌, ◌≤◌, ◌<◌, List, get_or, length}
use Rattle.limits.specs.Limits.{last_bytes}

-- ---- a row of which x pels are in
pub record Row (row : List ℕ) (x : ℕ) : Type 0 where
  pub size : length row ≡ last_bytes
  pub octets : (i : ℕ) → get_or row i 0 ≤ 255
  pub clear : get_or row (x / 8) 0 % 2 ^ (8 - x % 8) ≡ 0
  pub zeros : (i : ℕ) → x / 8 < i → get_or row i 0 ≡ 0
