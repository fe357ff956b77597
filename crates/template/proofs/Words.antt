-- Eight bytes of a row as one number: its leading zeros are white pels. Assumes nothing.
use mathlib.Core.Path.{◌≡◌, sym, ap, ◌∙◌, subst}
use Prim.Native.Nat.{ℕ, suc, ◌+◌, ◌-◌, ◌*◌, ◌/◌, ◌%◌, ◌^◌, ◌≤◌, ◌<◌}
use native.Mathlib.Nat.{pow-succ', div-eq_of_lt, mod-lt}
use native.Mathlib.Numerals.{add-one}
use native.Mathlib.Decide.{dec_lt}
use native.Mathlib.Omega.{arith}
use mathlib.Core.List.{List}
use lib.Bits.{bit_and, bit_or, and_mask, or_shifted}
use lib.Count.{count_leading_zeros, leading_length}
use lib.ListN.{get_or}
use Rattle.std.specs.Int.{w64, from_be_bytes}
use lib.Pow.{pow_pos, pow_mono, pow-add, shl_exact, shr-shr, high, low, field, mod-mod-pow, ones_split, ones_lt}
use Rattle.template.specs.Pels.{pel_at}
use Rattle.template.specs.Words.{Word}

-- the lowest bit of what remains of some bits
bit-of : (n i : ℕ) → n % 2 ^ suc i % 2 ≡ n % 2
bit-of n i = ap (λ (j : ℕ). n % 2 ^ j % 2) one ∙ mod-mod-pow n i 1
  where
    one : suc i ≡ i + 1
    one = omega arith

-- a byte more
module _ (row : List ℕ) (k n w b : ℕ) (f : Word row k n w) (is : b ≡ get_or row (k + n) 0) (octet : b ≤ 255) where
  -- the pels before it
  before : (i : ℕ) → i < 8 * n → (w * 2 ^ 8 + b) / 2 ^ (8 * suc n - 1 - i) % 2 ≡ pel_at row (8 * k + i)
  before i h =
      let e : 8 * suc n - 1 - i ≡ 8 + (8 * n - 1 - i) = omega arith in
      ap (λ (j : ℕ). (w * 2 ^ 8 + b) / 2 ^ j % 2) e
      ∙ ap (λ (m : ℕ). m % 2) (sym (shr-shr (w * 2 ^ 8 + b) 8 (8 * n - 1 - i)) ∙ ap (λ (m : ℕ). m / 2 ^ (8 * n - 1 - i))
      (high w 8 {lo = b} (omega arith)))
      ∙ f.pels i h

  -- its own
  within : (r : ℕ) → r < 8 → (w * 2 ^ 8 + b) / 2 ^ (7 - r) % 2 ≡ b / 2 ^ (7 - r) % 2
  within r h =
      let e : suc r + (7 - r) ≡ 8 = omega arith in
      let s : (w * 2 ^ 8 + b) % 2 ^ (suc r + (7 - r)) ≡ b = ap (λ (j : ℕ). (w * 2 ^ 8 + b) % 2 ^ j) e
      ∙ low w 8 {lo = b} (omega arith) in
      sym (ap (λ (m : ℕ). m / 2 ^ (7 - r) % 2) (sym s) ∙ ap (λ (m : ℕ). m % 2) (field (w * 2 ^ 8 + b) (suc r) (7 - r))
      ∙ bit-of ((w * 2 ^ 8 + b) / 2 ^ (7 - r)) r)

  own : (i : ℕ) → 8 * n ≤ i → i < 8 * suc n → (w * 2 ^ 8 + b) / 2 ^ (8 * suc n - 1 - i) % 2 ≡ pel_at row (8 * k + i)
  unfolding pel_at
  own i l h =
      let r : ℕ = i - 8 * n in
      let e : 8 * suc n - 1 - i ≡ 7 - r = omega arith in
      let byte : (8 * k + i) / 8 ≡ k + n = omega arith in
      let place : 7 - r ≡ 7 - (8 * k + i) % 8 = omega arith in
      ap (λ (j : ℕ). (w * 2 ^ 8 + b) / 2 ^ j % 2) e ∙ within r (omega arith)
      ∙ ap (λ (j : ℕ). b / 2 ^ j % 2) place
      ∙ ap (λ (m : ℕ). m / 2 ^ (7 - (8 * k + i) % 8) % 2) (is ∙ ap (λ (j : ℕ). get_or row j 0) (sym byte))

  word_next : Word row k (suc n) (w * 2 ^ 8 + b)
  word_next = record { small = fits; pels = λ i h. go i h (dec_lt i (8 * n)) }
    where
      fits : w * 2 ^ 8 + b < 2 ^ (8 * suc n)
      fits =
          let e : 8 * suc n ≡ 8 * n + 8 = omega arith in
          let p : 2 ^ (8 * suc n) ≡ 2 ^ (8 * n) * 2 ^ 8 = ap (λ (j : ℕ). 2 ^ j) e ∙ pow-add 2 (8 * n) 8 in
          omega (arith, f.small)

      go : (i : ℕ) → i < 8 * suc n → Dec (i < 8 * n) → (w * 2 ^ 8 + b) / 2 ^ (8 * suc n - 1 - i) % 2 ≡ pel_at row
          (8 * k + i)
      go i h (yes l) = before i l
      go i h (no l) = own i (omega arith) h

-- eight bytes, as std makes one number of them
pub word-bytes : (row bytes : List ℕ) (k w : ℕ) → ((i : ℕ) → get_or row i 0 ≤ 255)
    → ((i : ℕ) → i < 8 → get_or bytes i 0 ≡ get_or row (k + i) 0) → w ≡ from_be_bytes w64 bytes → Word row k 8 w
word-bytes row bytes k w octet same e = subst (Word row k 8) (omega arith)
    (more 7 _ (omega arith) (more 6 _ (omega arith) (more 5 _ (omega arith) (more 4 _ (omega arith)
    (more 3 _ (omega arith) (more 2 _ (omega arith) (more 1 _ (omega arith) (more 0 0 (omega arith) none))))))))
  where
    none : Word row k 0 0
    none = record { small = omega arith; pels = λ i h. absurd (omega arith) }

    more : (n w : ℕ) → n < 8 → Word row k n w → Word row k (suc n) (w * 2 ^ 8 + get_or bytes n 0)
    more n w h f = word_next row k n w (get_or bytes n 0) f (same n h) (rw (same n h) (octet (k + n)))

-- as a program joins it
pub word-join : (row : List ℕ) (k n w b : ℕ) → Word row k n w → n < 8 → b ≡ get_or row (k + n) 0 → b ≤ 255
    → Word row k (n + 1)
    (bit_or (w * 2 ^ 8 % 2 ^ 64) b)
word-join row k n w b f h e o =
    rw (add-one, shl_exact {a = w} (8 * n) 8 64 f.small (omega arith), or_shifted w 8 b (omega arith))
    (word_next row k n w b f e o)

-- ---- the number without its first o pels
mask_is : (o : ℕ) → o ≤ 64 → 18446744073709551615 / 2 ^ o ≡ 2 ^ (64 - o) - 1
mask_is o h =
    let e : 64 ≡ 64 - o + o = omega arith in
    ap (λ (j : ℕ). (2 ^ j - 1) / 2 ^ o) e ∙ ap (λ (m : ℕ). m / 2 ^ o) (ones_split (64 - o) o) ∙ high (2 ^ (64 - o) - 1)
    o {lo = 2 ^ o - 1} (ones_lt o)

pub masked : (w o : ℕ) → o ≤ 64 → bit_and w (18446744073709551615 / 2 ^ o) ≡ w % 2 ^ (64 - o)
masked w o h = ap (bit_and w) (mask_is o h) ∙ and_mask w (64 - o)

module _ (row : List ℕ) (k w o : ℕ) (f : Word row k 8 w) (h : o < 64) where
  abbrev pub t : ℕ
  t = w % 2 ^ (64 - o)

  abbrev pub zeros : ℕ
  zeros = count_leading_zeros 64 t

  below : t < 2 ^ (64 - o)
  below = mod-lt w (pow_pos (64 - o))

  small : t < 2 ^ 64
  small = let p : 2 ^ (64 - o) ≤ 2 ^ 64 = pow_mono {i = 64 - o} {j = 64} (omega arith) in omega (arith, below)

  pub zeros-more : (o ≤ zeros) × (zeros ≤ 64)
  zeros-more = let l = leading_length 64 t small in (
    go l.0 l.1 l.3 (dec_lt (64 - o) l.0),
    omega
        (arith, l.1),
  )
    where
      go : (m : ℕ) → zeros + m ≡ 64 → 2 ^ m ≤ 2 * t + 1 → Dec (64 - o < m) → o ≤ zeros
      go m e u (no s) = omega arith
      go m e u (yes s) =
          let p : 2 ^ suc (64 - o) ≤ 2 ^ m = pow_mono {i = suc (64 - o)} {j = m} s in
          let d : 2 ^ suc (64 - o) ≡ 2 * 2 ^ (64 - o) = pow-succ' 2 (64 - o) in
          absurd (omega (arith, below))

  -- its leading zeros are white pels
  pub zeros-white : (i : ℕ) → o ≤ i → i < zeros → pel_at row (8 * k + i) ≡ 0
  zeros-white i a b = sym (f.pels i (omega (arith, zeros-more.1))) ∙ ap (λ (j : ℕ). w / 2 ^ j % 2) e
      ∙ sym (bit-of (w / 2 ^ (63 - i)) (i - o))
      ∙ ap (λ (m : ℕ). m % 2) none
    where
      e : 8 * 8 - 1 - i ≡ 63 - i
      e = omega arith

      under : t < 2 ^ (63 - i)
      under =
          let l = leading_length 64 t small in
          let p : 2 ^ l.0 ≤ 2 ^ (63 - i) = pow_mono {i = l.0} {j = 63 - i} (omega (arith, l.1)) in
          omega (arith, l.2)

      none : w / 2 ^ (63 - i) % 2 ^ suc (i - o) ≡ 0
      none =
          let s : suc (i - o) + (63 - i) ≡ 64 - o = omega (arith, zeros-more.1) in
          sym (field w (suc (i - o)) (63 - i)) ∙ ap (λ (j : ℕ). w % 2 ^ j / 2 ^ (63 - i)) s ∙ div-eq_of_lt under
