-- The last row of a band, in the room for it. Assumes nothing.
use mathlib.Core.Path.{◌≡◌, ap, ap₂, ◌∙◌}
use Prim.Native.Nat.{ℕ, suc, ◌-◌, ◌*◌, ◌≤◌, ◌<◌}
use native.Mathlib.Nat.{suc-mul, mul-le-mul_right}
use native.Mathlib.Omega.{arith}
use mathlib.Core.List.{List, ◌++◌}
use lib.ListN.{length, drop, replicate, length-drop}
use lib.Seq.{length-take-le}
use Rattle.std.proofs.lemmas.List.{drop-replicate}
use Rattle.limits.specs.Limits.{last_bytes}
use Rattle.template.specs.Pels.{row_bytes, row_at}
use Rattle.band.specs.Band.{last_row}

row-length : (width : ℕ) (band : List ℕ) (rows y : ℕ) → y < rows → length band ≡ rows * row_bytes width
    → length (row_at width band y) ≡ row_bytes width
row-length width band rows y h l =
    let n = row_bytes width in
    let q : suc y * n ≤ rows * n = mul-le-mul_right n h in
    length-take-le n (drop (y * n) band) (omega (arith, length-drop (y * n) band, suc-mul y n))

-- the row before zeros
pub in-room : (band part row : List ℕ) (width rows : ℕ) → 1 ≤ rows → length band ≡ rows * row_bytes width
    → part ≡ row_at width band (rows - 1) → row ≡ part
    → row ++ drop (length part) (replicate last_bytes 0) ≡ last_row width rows band
unfolding last_row
in-room band part row width rows h l p e =
    ap₂ (λ (x y : List ℕ). x ++ y) (e ∙ p) (ap (λ (k : ℕ). drop k (replicate last_bytes 0)) (ap length p
    ∙ row-length width band rows (rows - 1) (omega arith) l) ∙ drop-replicate (row_bytes width) last_bytes 0)
