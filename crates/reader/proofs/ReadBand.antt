-- A band as the reader meets it, row after row. Assumes nothing.
use mathlib.Core.Path.{◌≡◌, refl, sym, ap, ap₂, ◌∙◌}
use Prim.Native.Nat.{ℕ, zero, suc, ◌+◌, ◌-◌, ◌*◌, ◌/◌, ◌%◌, ◌^◌, ◌≤◌, ◌<◌}
use native.Mathlib.Nat.{suc-mul, mul-le-mul_right}
use native.Mathlib.Decide.{dec_lt}
use native.Mathlib.Omega.{arith}
use mathlib.Core.Bool.{Bool, true, ◌&&◌}
use mathlib.Core.List.{List, [], ◌∷◌, ◌++◌}
use lib.ListN.{get_or, length, take, drop, replicate, length-drop, length-replicate, get_or-replicate, get_or-eq_default}
use lib.ListN.{take-append-drop}
use lib.Seq.{drop_at, drop-append-le, take-append-le, take_all, length-take-le, get_or-take, get_or-drop, ext_get_or}
use Rattle.limits.specs.Limits.{max_width, last_bytes}
use Rattle.template.specs.Pels.{row_bytes, pel_at, pels_to, row_at, band_to, row_padded, band_padded}
use Rattle.template.specs.Packing.{Row}

-- ---- rows of a band that grows by one
module _ (width y : ℕ) (band row : List ℕ) (size : length band ≡ y * row_bytes width)
    (fits : length row ≡ row_bytes width) where
  row_before : (i : ℕ) → i < y → row_at width (band ++ row) i ≡ row_at width band i
  row_before i h =
      let p : suc i * row_bytes width ≤ y * row_bytes width = mul-le-mul_right (row_bytes width) h in
      let q : suc i * row_bytes width ≡ i * row_bytes width + row_bytes width = suc-mul i (row_bytes width) in
      ap (take (row_bytes width)) (drop-append-le (i * row_bytes width) band row (omega arith))
      ∙ take-append-le (row_bytes width) (drop (i * row_bytes width) band) row
      (rw (length-drop (i * row_bytes width) band) (omega arith))

  row_last : row_at width (band ++ row) y ≡ row
  row_last = ap (take (row_bytes width)) (drop_at band row (y * row_bytes width) size) ∙ take_all (row_bytes width) row
      (omega arith)

  pels-before : (n : ℕ) → n ≤ y → band_to width (band ++ row) n ≡ band_to width band n
  unfolding band_to
  pels-before zero h = refl
  pels-before (suc n) h = ap₂ (λ (l r : List ℕ). l ++ pels_to r width) (pels-before n (omega arith)) (row_before n h)

  padded-before : (n : ℕ) → n ≤ y → band_padded width (band ++ row) n ≡ band_padded width band n
  unfolding band_padded
  padded-before zero h = refl
  padded-before (suc n) h =
      ap₂ (λ (b : Bool) (r : List ℕ). b && row_padded width r) (padded-before n (omega arith)) (row_before n h)

  pub pels-grow : band_to width (band ++ row) (suc y) ≡ band_to width band y ++ pels_to row width
  unfolding band_to
  pels-grow = ap₂ (λ (l r : List ℕ). l ++ pels_to r width) (pels-before y (omega arith)) row_last

  pub padded-grow : band_padded width (band ++ row) (suc y) ≡ (band_padded width band y && row_padded width row)
  unfolding band_padded
  padded-grow = ap₂ (λ (b : Bool) (r : List ℕ). b && row_padded width r) (padded-before y (omega arith)) row_last

  pub last-grow : (room : ℕ) → row_at width (band ++ row) (suc y - 1) ≡ row
  last-grow room = ap (row_at width (band ++ row)) (less y) ∙ row_last
    where
      less : (y : ℕ) → suc y - 1 ≡ y
      less y = omega arith

-- ---- a row as it stands in its room
module _ (width : ℕ) (row : List ℕ) (w : Row row width) (some : 1 ≤ width) (narrow : width ≤ max_width) where
  abbrev n : ℕ
  n = row_bytes width

  abbrev front : List ℕ
  front = take n row

  pub front-size : length front ≡ n
  front-size = length-take-le n row (omega (arith, w.size))

  -- its pels lie in its own bytes
  pel-front : (x : ℕ) → x < width → pel_at front x ≡ pel_at row x
  unfolding pel_at
  pel-front x h = ap (λ (b : ℕ). b / 2 ^ (7 - x % 8) % 2) (get_or-take n row (x / 8) 0 (omega arith))

  pels-front : (k : ℕ) → k ≤ width → pels_to front k ≡ pels_to row k
  unfolding pels_to
  pels-front zero h = refl
  pels-front (suc k) h = ap₂ (λ (l : List ℕ) (p : ℕ). l ++ (p ∷ [])) (pels-front k (omega arith)) (pel-front k h)

  pub front-pels : pels_to front width ≡ pels_to row width
  front-pels = pels-front width (omega arith)

  -- the bytes after it are zero
  beyond : (i : ℕ) → n ≤ i → get_or row i 0 ≡ 0
  beyond i h = go (dec_lt (width / 8) i)
    where
      go : Dec (width / 8 < i) → get_or row i 0 ≡ 0
      go (yes l) = w.zeros i l
      go (no l) =
          let e : i ≡ width / 8 = omega arith in
          let z : width % 8 ≡ 0 = omega arith in
          let k : get_or row (width / 8) 0 % 256 ≡ 0 = ap (λ (r : ℕ). get_or row (width / 8) 0 % 2 ^ (8 - r)) (sym z)
          ∙ w.clear in
          ap (λ (j : ℕ). get_or row j 0) e ∙ omega (arith, w.octets (width / 8), k)

  rest-zero : drop n row ≡ replicate (last_bytes - n) 0
  rest-zero =
      ext_get_or 0 (drop n row) (replicate (last_bytes - n) 0)
      (length-drop n row ∙ omega (arith, w.size, length-replicate {A = ℕ} (last_bytes - n) 0))
      (λ i h. get_or-drop n row i 0 ∙ beyond (n + i) (omega arith)
      ∙ sym (get_or-replicate {A = ℕ} (last_bytes - n) i 0 0 (omega (arith, w.size, length-drop n row, h))))

  pub row_is : row ≡ front ++ replicate (last_bytes - n) 0
  row_is = sym (take-append-drop n row) ∙ ap (λ (l : List ℕ). front ++ l) rest-zero

  -- and so are its padding bits
  pub front-padded : row_padded width front ≡ true
  unfolding row_padded
  front-padded = borrow.Author.Tests.eq-eqb (get_or front (n - 1) 0 % 2 ^ (8 * n - width)) 0
      (ap (λ (b : ℕ). b % 2 ^ (8 * n - width)) (get_or-take n row (n - 1) 0 (omega arith)) ∙ pad (dec_lt 0 (width % 8)))
    where
      pad : Dec (0 < width % 8) → get_or row (n - 1) 0 % 2 ^ (8 * n - width) ≡ 0
      pad (yes l) =
          let e : n - 1 ≡ width / 8 = omega arith in
          let f : 8 * n - width ≡ 8 - width % 8 = omega arith in
          ap₂ (λ (i k : ℕ). get_or row i 0 % 2 ^ k) e f ∙ w.clear
      pad (no l) = let f : 8 * n - width ≡ 0 = omega arith in ap (λ (k : ℕ). get_or row (n - 1) 0 % 2 ^ k) f
          ∙ native.Mathlib.Nat.mod-one _

  pub front-octets : (i : ℕ) → get_or front i 0 ≤ 255
  front-octets i = go (dec_lt i n)
    where
      go : Dec (i < n) → get_or front i 0 ≤ 255
      go (yes l) = rw (get_or-take n row i 0 l) (w.octets i)
      go (no l) = rw (get_or-eq_default front 0 {n = i} (omega (arith, front-size))) (omega arith)
