-- Demand 2's theorems on bands as bytes: what is written is read back, no two bands of one size have one code, and so
-- what a read answers is determined. Assumes nothing.
use mathlib.Core.Path.{◌≡◌, refl, sym, ap, ap₂, ◌∙◌}
use Prim.Native.Nat.{ℕ, zero, suc, ◌+◌, ◌-◌, ◌*◌, ◌/◌, ◌%◌, ◌^◌, ◌≤◌, ◌<◌, min}
use native.Mathlib.Nat.{suc-mul, mul-le-mul_right, div-one, div-div-eq-div-mul, pow-suc, mod-lt, div-add-mod'}
use native.Mathlib.Nat.{div-lt_iff_lt-mul}
use native.Mathlib.Decide.{dec_lt}
use native.Mathlib.Omega.{arith}
use mathlib.Core.Bool.{true}
use mathlib.Core.List.{List, [], ◌∷◌, ◌++◌}
use lib.ListN.{get_or, length, drop, length-take, length-drop, get_or-eq_default}
use lib.Seq.{ext_get_or, get_or-take, get_or-drop}
use lib.Pow.{mod-pow-add}
use borrow.Author.Tests.{eqb-true}
use Rattle.template.specs.Pels.{row_bytes, pel_at, pels_to, row_at, band_to, row_padded, band_padded}
use Rattle.template.proofs.Sliding.{pels-at}
use Rattle.ground.proofs.Bools.{both}
use Rattle.band.specs.Band.{written, IsBand}
use Rattle.band.proofs.Revisits.{band-size}
use Rattle.unique.proofs.BandPels.{same-pels}

-- ---- a byte is its eight bits
up : (x y : ℕ) → x / 2 ≡ y / 2 → x % 2 ≡ y % 2 → x ≡ y
up x y e f = omega arith

top_bit : (x y : ℕ) → x ≤ 255 → y ≤ 255 → x / 128 % 2 ≡ y / 128 % 2 → x / 128 ≡ y / 128
top_bit x y h k e = omega arith

byte-same : (a b : ℕ) → a ≤ 255 → b ≤ 255 → ((j : ℕ) → j < 8 → a / 2 ^ (7 - j) % 2 ≡ b / 2 ^ (7 - j) % 2) → a ≡ b
byte-same a b h k f = halves 7 a b f (omega arith) (top_bit a b h k (f 0 (omega arith)))
  where
    one_less : (n : ℕ) → n < 8 → 7 - (7 - n) ≡ n
    one_less n h = omega arith

    halves : (n a b : ℕ) → ((j : ℕ) → j < 8 → a / 2 ^ (7 - j) % 2 ≡ b / 2 ^ (7 - j) % 2) → n < 8
        → a / 2 ^ n ≡ b / 2 ^ n → a ≡ b
    halves zero a b f h e = sym (div-one a) ∙ e ∙ div-one b
    halves (suc n) a b f h e =
        halves n a b f (omega arith)
        (up (a / 2 ^ n) (b / 2 ^ n) (half a ∙ e ∙ sym (half b))
        (ap (λ (m : ℕ). a / 2 ^ m % 2) (sym (one_less n (omega arith))) ∙ f (7 - n) (omega arith)
        ∙ ap (λ (m : ℕ). b / 2 ^ m % 2) (one_less n (omega arith))))
      where
        half : (x : ℕ) → x / 2 ^ n / 2 ≡ x / 2 ^ suc n
        half x = div-div-eq-div-mul x (2 ^ n) 2 ∙ ap (λ (m : ℕ). x / m) (sym (pow-suc 2 n))

-- a bit among zeros is zero
clear-bit : (b k : ℕ) (j : ℕ) → b % 2 ^ k ≡ 0 → j < k → b / 2 ^ j % 2 ≡ 0
clear-bit b zero j e h = absurd (omega arith)
clear-bit b (suc k) j e h =
    let m : b % 2 ^ (1 + k) ≡ b / 2 ^ k % 2 ^ 1 * 2 ^ k + b % 2 ^ k = mod-pow-add b 1 k in
    let n : b % 2 ^ (1 + k) ≡ 0 = ap (λ (x : ℕ). b % 2 ^ x) (one k) ∙ e in
    go (dec_lt j k) (λ l. clear-bit b k j (omega arith) l) (top (b / 2 ^ k % 2 ^ 1) (2 ^ k) (b % 2 ^ k)
    (lib.Pow.pow_pos k) (sym m ∙ n))
  where
    one : (k : ℕ) → 1 + k ≡ suc k
    one k = omega arith

    top : (x p r : ℕ) → 1 ≤ p → x * p + r ≡ 0 → x ≡ 0
    top zero p r h e = refl
    top (suc x) p r h e = absurd (omega (arith, suc-mul x p))

    go : Dec (j < k) → (j < k → b / 2 ^ j % 2 ≡ 0) → b / 2 ^ k % 2 ^ 1 ≡ 0 → b / 2 ^ j % 2 ≡ 0
    go (yes l) f t = f l
    go (no l) f t = let e : j ≡ k = omega arith in rw e t

-- ---- two rows of one width with the same pels are one
module _ (width : ℕ) (a b : List ℕ) (some : 1 ≤ width) (la : length a ≡ row_bytes width)
    (lb : length b ≡ row_bytes width) (oa : (i : ℕ) → get_or a i 0 ≤ 255) (ob : (i : ℕ) → get_or b i 0 ≤ 255)
    (pa : row_padded width a ≡ true) (pb : row_padded width b ≡ true) (e : pels_to a width ≡ pels_to b width) where
  same-pel : (x : ℕ) → x < width → pel_at a x ≡ pel_at b x
  same-pel x h = sym (pels-at a width x h) ∙ ap (λ (l : List ℕ). get_or l x 0) e ∙ pels-at b width x h

  -- past the width the bits are zero
  padding : (l : List ℕ) → row_padded width l ≡ true → (i j : ℕ) → i < row_bytes width → j < 8 → width ≤ 8 * i + j
      → get_or l i 0 / 2 ^ (7 - j) % 2 ≡ 0
  unfolding row_padded
  padding l p i j hi hj hw =
      let z : get_or l (row_bytes width - 1) 0 % 2 ^ (8 * row_bytes width - width) ≡ 0 = eqb-true _ 0 p in
      let n : i ≡ row_bytes width - 1 = omega arith in
      ap (λ (k : ℕ). get_or l k 0 / 2 ^ (7 - j) % 2) n ∙ clear-bit (get_or l (row_bytes width - 1) 0)
      (8 * row_bytes width - width) (7 - j) z (omega arith)

  same_bit : (i j : ℕ) → i < row_bytes width → j < 8 → get_or a i 0 / 2 ^ (7 - j) % 2 ≡ get_or b i 0 / 2 ^ (7 - j) % 2
  unfolding pel_at
  same_bit i j hi hj = go (dec_lt (8 * i + j) width)
    where
      at : (8 * i + j) / 8 ≡ i
      at = omega arith

      off : (8 * i + j) % 8 ≡ j
      off = omega arith

      go : Dec (8 * i + j < width) → get_or a i 0 / 2 ^ (7 - j) % 2 ≡ get_or b i 0 / 2 ^ (7 - j) % 2
      go (yes l) =
          ap₂ (λ (x y : ℕ). get_or a x 0 / 2 ^ (7 - y) % 2) (sym at) (sym off) ∙ same-pel (8 * i + j) l
          ∙ ap₂ (λ (x y : ℕ). get_or b x 0 / 2 ^ (7 - y) % 2) at off
      go (no l) = padding a pa i j hi hj (omega arith) ∙ sym (padding b pb i j hi hj (omega arith))

  same_row : a ≡ b
  same_row = ext_get_or 0 a b (la ∙ sym lb) (λ i h. byte-same (get_or a i 0) (get_or b i 0) (oa i) (ob i)
      (λ j hj. same_bit i j (omega (arith, la)) hj))

-- ---- two bands of one size with the same pels are one
cut : (a b c d : List ℕ) → length a ≡ length c → a ++ b ≡ c ++ d → (a ≡ c) × (b ≡ d)
cut [] b [] d l e = (refl, e)
cut [] b (y ∷ c) d l e = absurd (omega arith)
cut (x ∷ a) b [] d l e = absurd (omega arith)
cut (x ∷ a) b (y ∷ c) d l e =
    let k = cut a b c d (omega arith) (ap (λ (m : List ℕ). drop 1 m) e) in
    (ap₂ (λ (z : ℕ) (m : List ℕ). z ∷ m) (ap (λ (m : List ℕ). get_or m 0 0) e) k.0, k.1)

module _ (width rows : ℕ) (a b : List ℕ) (some : 1 ≤ width) (ia : IsBand width rows a) (ib : IsBand width rows b) where
  rows-padded : (l : List ℕ) (n y : ℕ) → band_padded width l n ≡ true → y < n → row_padded width (row_at width l y) ≡ true
  unfolding band_padded
  rows-padded l zero y p h = absurd (omega arith)
  rows-padded l (suc n) y p h =
      go (dec_lt y n) (λ k. rows-padded l n y (both (band_padded width l n) (row_padded width (row_at width l n)) p).0 k)
    where
      go : Dec (y < n) → (y < n → row_padded width (row_at width l y) ≡ true) → row_padded width (row_at width l y) ≡ true
      go (yes k) f = f k
      go (no k) f = let e : y ≡ n = omega arith in
          rw e (both (band_padded width l n) (row_padded width (row_at width l n)) p).1

  row-pels : (n y : ℕ) → band_to width a n ≡ band_to width b n → y < n → pels_to (row_at width a y) width ≡ pels_to
      (row_at width b y) width
  unfolding band_to
  row-pels zero y e h = absurd (omega arith)
  row-pels (suc n) y e h =
      let k = cut (band_to width a n) (pels_to (row_at width a n) width) (band_to width b n)
      (pels_to (row_at width b n) width) (band-size width a n ∙ sym (band-size width b n)) e in
      go k (dec_lt y n) (λ l. row-pels n y k.0 l)
    where
      go : (band_to width a n ≡ band_to width b n) × (pels_to (row_at width a n) width ≡ pels_to (row_at width b n) width)
          → Dec (y < n)
          → (y < n → pels_to (row_at width a y) width ≡ pels_to (row_at width b y) width) → pels_to (row_at width a y) width
          ≡ pels_to (row_at width b y) width
      go k (yes l) f = f l
      go k (no l) f = let e : y ≡ n = omega arith in rw e k.1

  row-size : (l : List ℕ) (y : ℕ) → length l ≡ rows * row_bytes width → y < rows → length (row_at width l y)
      ≡ row_bytes width
  row-size l y s h =
      let p : suc y * row_bytes width ≤ rows * row_bytes width = mul-le-mul_right (row_bytes width) h in
      length-take (row_bytes width) (drop (y * row_bytes width) l) ∙ ap (min (row_bytes width))
      (length-drop (y * row_bytes width) l) ∙ omega (arith, suc-mul y (row_bytes width))

  row-octets : (l : List ℕ) (y : ℕ) → ((i : ℕ) → get_or l i 0 ≤ 255) → (i : ℕ) → get_or (row_at width l y) i 0 ≤ 255
  row-octets l y o i = go (dec_lt i (row_bytes width))
    where
      go : Dec (i < row_bytes width) → get_or (row_at width l y) i 0 ≤ 255
      go (yes h) = rw (
        get_or-take (row_bytes width) (drop (y * row_bytes width) l) i 0 h,
        get_or-drop (y * row_bytes width) l
            i 0,
      ) (o (y * row_bytes width + i))
      go (no h) = rw (get_or-eq_default (row_at width l y) 0 {n = i}
          (rw (length-take (row_bytes width) (drop (y * row_bytes width) l)) (omega arith))) (omega arith)

  same_rows : band_to width a rows ≡ band_to width b rows → (y : ℕ) → y < rows → row_at width a y ≡ row_at width b y
  same_rows e y h =
      same_row width (row_at width a y) (row_at width b y) some (row-size a y ia.size h) (row-size b y ib.size h)
      (row-octets a y ia.octets) (row-octets b y ib.octets)
      (rows-padded a rows y ia.padded h) (rows-padded b rows y ib.padded h) (row-pels rows y e h)

  -- a byte of a band stands in one of its rows
  in_row : (l : List ℕ) (i : ℕ) → get_or l i 0 ≡ get_or (row_at width l (i / row_bytes width)) (i % row_bytes width) 0
  in_row l i =
      let n : ℕ = row_bytes width in
      let h : i % n < n = mod-lt i (omega arith) in
      sym (get_or-take n (drop (i / n * n) l) (i % n) 0 h ∙ get_or-drop (i / n * n) l (i % n) 0
      ∙ ap (λ (k : ℕ). get_or l k 0) (div-add-mod' i n))

  pub same-band : band_to width a rows ≡ band_to width b rows → a ≡ b
  same-band e =
      ext_get_or 0 a b (ia.size ∙ sym ib.size)
      (λ i h. in_row a i ∙ ap (λ (l : List ℕ). get_or l (i % row_bytes width) 0) (same_rows e (i / row_bytes width)
      ((div-lt_iff_lt-mul {k = row_bytes width} {x = i} {y = rows} (omega arith)).1 (omega (arith, ia.size, h))))
      ∙ sym (in_row b i))

-- no two bands of one size have one code, from one table and last row
pub no-two : (width rows : ℕ) (table last a b : List ℕ) → 1 ≤ width → IsBand width rows a → IsBand width rows b
    → (written width rows table last a).code ≡ (written width rows table last b).code → a ≡ b
no-two width rows table last a b h ia ib e = same-band width rows a b h ia ib (same-pels width rows table last a b e)
