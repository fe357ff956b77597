-- A band's padding, row by row: one row with a stray bit decides. Assumes nothing.
use mathlib.Core.Path.{◌≡◌, sym}
use Prim.Native.Nat.{ℕ, zero, suc, ◌+◌, ◌-◌, ◌*◌, ◌%◌, ◌^◌, ◌≤◌, ◌<◌}
use native.Mathlib.Omega.{arith}
use native.Mathlib.Numerals.{add-one}
use lib.Pow.{pow_pos, pow_mono}
use lib.Dec.{eqb}
use lib.ListN.{get_or}
use mathlib.Core.Bool.{true, false, ◌&&◌}
use mathlib.Core.List.{List}
use Rattle.ground.proofs.Bools.{and-true, and-false}
use Rattle.ground.proofs.Tests.{same?}
use mathlib.Core.Logic.{◌⊎◌, inl, inr, ◌≢◌}
use Rattle.template.specs.Pels.{row_bytes, row_at, row_padded, band_padded}

-- one row more
pub padded-next : (width : ℕ) (band : List ℕ) (y : ℕ) → true ≡ band_padded width band y
    → row_padded width (row_at width band y) ≡ true → true ≡ band_padded width band (y + 1)
unfolding band_padded
padded-next width band y p q =
    rw add-one (sym (and-true (band_padded width band y) (row_padded width (row_at width band y)) (sym p) q))

-- a row of the band has a stray bit
pub padded-not : (width : ℕ) (band : List ℕ) (y n : ℕ) → y < n → row_padded width (row_at width band y) ≡ false
    → band_padded width band n ≡ false
unfolding band_padded
padded-not width band y zero h q = absurd (omega arith)
padded-not width band y (suc n) h q = go (same? y n) (λ l. padded-not width band y n l q)
  where
    go : (y ≡ n) ⊎ (y ≢ n) → (y < n → band_padded width band n ≡ false)
        → (band_padded width band n && row_padded width (row_at width band n)) ≡ false
    go (inl e) f = rw (← e, q) (and-false (band_padded width band y))
    go (inr e) f = rw (f (omega arith))

-- ---- the remainder that a row's last byte leaves
pub shift_small : (n : ℕ) → n ≤ 7 → (1 * 2 ^ n % 18446744073709551616 ≡ 2 ^ n) × (0 < 2 ^ n)
shift_small n h = let p : 2 ^ n ≤ 2 ^ 7 = pow_mono {i = n} {j = 7} h in let q : 0 < 2 ^ n = pow_pos n in
    (omega arith, q)

pub padded-by : (row : List ℕ) (width bytes : ℕ) → bytes ≡ row_bytes width → 1 ≤ width
    → eqb (get_or row (bytes - 1) 0 % (1 * 2 ^ (8 * bytes - width) % 18446744073709551616)) 0 ≡ row_padded width row
unfolding row_padded
padded-by row width bytes e h = rw ((shift_small (8 * bytes - width) (omega arith)).0, e)
