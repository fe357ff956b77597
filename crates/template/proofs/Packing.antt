-- A row packed pel by pel: each byte is filled from its top bit down, and the pels are those that were put. Assumes
-- nothing.
use mathlib.Core.Path.{◌≡◌, refl, sym, ap, ap₂, ◌∙◌, subst}
use mathlib.Core.Logic.{◌≢◌, ◌⊎◌, inl, inr}
use Prim.Native.Nat.{ℕ, zero, suc, ◌+◌, ◌-◌, ◌*◌, ◌/◌, ◌%◌, ◌^◌, ◌≤◌, ◌<◌}
use native.Mathlib.Nat.{pow-succ', div-div-eq-div-mul, div-add-mod', mul-le-mul_right, lt_of_mul-lt-mul_right}
use native.Mathlib.Nat.{mod-eq_of_lt}
use native.Mathlib.Decide.{dec_lt}
use native.Mathlib.Omega.{arith}
use mathlib.Core.List.{List, [], ◌∷◌, ◌++◌}
use lib.ListN.{get_or, set, replicate, length-set, get_or-replicate, get_or-eq_default, length-replicate}
use lib.Seq.{get_or-set_same, get_or-set_other}
use lib.Arith.{digits_div, digits_mod}
use lib.Pow.{pow-add, pow_pos}
use Rattle.limits.specs.Limits.{max_width, last_bytes}
use Rattle.ground.proofs.Tests.{same?}
use Rattle.template.specs.Pels.{pel_at, pels_to}
use Rattle.template.specs.Packing.{Row}

-- ---- one byte: b has zeros from bit r on; the pel p is put there. q is that bit's weight
module _ (b p q k : ℕ) (some : 1 ≤ q) (whole : 2 * q * k ≡ 256) (top : b ≤ 255) (clear : b % (2 * q) ≡ 0)
    (bit : p ≤ 1) where
  abbrev m : ℕ
  m = b / (2 * q)

  is : b ≡ m * (2 * q)
  is = let e : m * (2 * q) + b % (2 * q) ≡ b = div-add-mod' b (2 * q) in omega arith

  small : p * q < 2 * q
  small = let h : p * q ≤ 1 * q = mul-le-mul_right q bit in omega arith

  same-high : (b + p * q) / (2 * q) ≡ b / (2 * q)
  same-high = ap (λ (x : ℕ). (x + p * q) / (2 * q)) is ∙ digits_div m small

  this-bit : (b + p * q) / q % 2 ≡ p
  this-bit =
      let e : b + p * q ≡ (m * 2 + p) * q + 0 = omega (arith, is) in
      ap (λ (x : ℕ). x / q % 2) e ∙ ap (λ (x : ℕ). x % 2) (digits_div (m * 2 + p) some) ∙ omega arith

  rest-clear : (b + p * q) % q ≡ 0
  rest-clear = let e : b + p * q ≡ (m * 2 + p) * q + 0 = omega (arith, is) in ap (λ (x : ℕ). x % q) e ∙ digits_mod
      (m * 2 + p) some

  still-byte : b + p * q ≤ 255
  still-byte =
      let l : m * (2 * q) < k * (2 * q) = omega (arith, is) in
      let n : m < k = lt_of_mul-lt-mul_right (2 * q) l in
      let o : suc m * (2 * q) ≤ k * (2 * q) = mul-le-mul_right (2 * q) n in
      omega (arith, is, small)

  pub record Filled : Type 0 where
    pub high : (b + p * q) / (2 * q) ≡ b / (2 * q)
    pub here : (b + p * q) / q % 2 ≡ p
    pub low : (b + p * q) % q ≡ 0
    pub octet : b + p * q ≤ 255

  pub filled : Filled
  filled = record { high = same-high; here = this-bit; low = rest-clear; octet = still-byte }

zero-at : (i : ℕ) → get_or (replicate last_bytes 0) i 0 ≡ zero
zero-at i = go (dec_lt i last_bytes)
  where
    go : Dec (i < last_bytes) → get_or (replicate last_bytes 0) i 0 ≡ zero
    go (yes h) = get_or-replicate {A = ℕ} last_bytes i 0 0 h
    go (no h) = get_or-eq_default {A = ℕ} (replicate last_bytes 0) 0 {n = i} (omega arith)

pub row-none : Row (replicate last_bytes 0) 0
row-none =
    record {
      size = length-replicate {A = ℕ} last_bytes 0;
      octets = λ i. omega (arith, zero-at i);
      clear = refl;
      zeros =
          λ i h. zero-at i;
    }

weight-whole : (r : ℕ) → r ≤ 7 → 2 * 2 ^ (7 - r) * 2 ^ r ≡ 256
weight-whole r h =
    ap (λ (x : ℕ). x * 2 ^ r) (sym (pow-succ' 2 (7 - r))) ∙ sym (pow-add 2 (suc (7 - r)) r) ∙ ap (λ (x : ℕ). 2 ^ x)
    (eight r h)
  where
    eight : (r : ℕ) → r ≤ 7 → suc (7 - r) + r ≡ 8
    eight r h = omega arith

double-weight : (r : ℕ) → r ≤ 7 → 2 ^ (8 - r) ≡ 2 * 2 ^ (7 - r)
double-weight r h = ap (λ (x : ℕ). 2 ^ x) (one r h) ∙ pow-succ' 2 (7 - r)
  where
    one : (r : ℕ) → r ≤ 7 → 8 - r ≡ suc (7 - r)
    one r h = omega arith

module _ (row : List ℕ) (x p : ℕ) (w : Row row x) (fits : x < max_width) (bit : p ≤ 1) where
  abbrev i : ℕ
  i = x / 8

  abbrev r : ℕ
  r = x % 8

  abbrev q : ℕ
  q = 2 ^ (7 - r)

  abbrev b : ℕ
  b = get_or row i 0

  abbrev next : List ℕ
  next = set row i (b + p * q)

  byte : Filled b p q (2 ^ r) (pow_pos (7 - r)) (weight-whole r (omega arith)) (w.octets i)
      (subst (λ (y : ℕ). b % y ≡ 0) (double-weight r (omega arith)) w.clear) bit
  byte = filled b p q (2 ^ r) (pow_pos (7 - r)) (weight-whole r (omega arith)) (w.octets i)
      (subst (λ (y : ℕ). b % y ≡ 0) (double-weight r (omega arith)) w.clear) bit

  pub byte-room : b + p * q ≤ 255
  byte-room = byte.octet

  at_i : get_or next i 0 ≡ b + p * q
  at_i = get_or-set_same row i (b + p * q) 0 (omega (arith, w.size))

  at_other : (j : ℕ) → j ≢ i → get_or next j 0 ≡ get_or row j 0
  at_other j n = get_or-set_other row i j (b + p * q) 0 n

  -- a higher bit of the same byte
  higher : (j : ℕ) → j < r → 2 ^ (7 - j) ≡ 2 * q * 2 ^ (r - 1 - j)
  higher j h = ap (λ (y : ℕ). 2 ^ y) (seven j h) ∙ pow-add 2 (suc (7 - r)) (r - 1 - j)
      ∙ ap (λ (y : ℕ). y * 2 ^ (r - 1 - j)) (pow-succ' 2 (7 - r))
    where
      seven : (j : ℕ) → j < r → 7 - j ≡ suc (7 - r) + (r - 1 - j)
      seven j h = omega arith

  high_same : (j : ℕ) → j < r → (b + p * q) / 2 ^ (7 - j) ≡ b / 2 ^ (7 - j)
  high_same j h =
      ap (λ (y : ℕ). (b + p * q) / y) (higher j h) ∙ sym (div-div-eq-div-mul (b + p * q) (2 * q) (2 ^ (r - 1 - j)))
      ∙ ap (λ (y : ℕ). y / 2 ^ (r - 1 - j)) byte.high ∙ div-div-eq-div-mul b (2 * q) (2 ^ (r - 1 - j))
      ∙ ap (λ (y : ℕ). b / y) (sym (higher j h))

  -- the pels before it stay, and it is the next
  pel-before : (y : ℕ) → y < x → pel_at next y ≡ pel_at row y
  unfolding pel_at
  pel-before y h = go (same? (y / 8) i)
    where
      go : (y / 8 ≡ i) ⊎ (y / 8 ≢ i) → get_or next (y / 8) 0 / 2 ^ (7 - y % 8) % 2 ≡ get_or row (y / 8) 0 / 2 ^
          (7 - y % 8) % 2
      go (inl e) =
          ap (λ (z : ℕ). get_or next z 0 / 2 ^ (7 - y % 8) % 2) e ∙ ap (λ (z : ℕ). z / 2 ^ (7 - y % 8) % 2) at_i
          ∙ ap (λ (z : ℕ). z % 2) (high_same (y % 8) (omega arith)) ∙ ap (λ (z : ℕ). get_or row z 0 / 2 ^ (7 - y % 8)
          % 2) (sym e)
      go (inr n) = ap (λ (z : ℕ). z / 2 ^ (7 - y % 8) % 2) (at_other (y / 8) n)

  pel-here : pel_at next x ≡ p
  unfolding pel_at
  pel-here = ap (λ (z : ℕ). z / q % 2) at_i ∙ byte.here

  pels-before : (n : ℕ) → n ≤ x → pels_to next n ≡ pels_to row n
  unfolding pels_to
  pels-before zero h = refl
  pels-before (suc n) h = ap₂ (λ (l : List ℕ) (y : ℕ). l ++ (y ∷ [])) (pels-before n (omega arith)) (pel-before n h)

  pub pels-next : pels_to next (suc x) ≡ pels_to row x ++ (p ∷ [])
  unfolding pels_to
  pels-next = ap₂ (λ (l : List ℕ) (y : ℕ). l ++ (y ∷ [])) (pels-before x (omega arith)) pel-here

  octet-next : (j : ℕ) → get_or next j 0 ≤ 255
  octet-next j = go (same? j i)
    where
      go : (j ≡ i) ⊎ (j ≢ i) → get_or next j 0 ≤ 255
      go (inl e) = rw (e, at_i) byte.octet
      go (inr n) = rw (at_other j n) (w.octets j)

  clear_next : get_or next (suc x / 8) 0 % 2 ^ (8 - suc x % 8) ≡ 0
  clear_next = go (dec_lt r 7)
    where
      no-rest : (n : ℕ) → 1 ≤ n → 0 % n ≡ 0
      no-rest n h = mod-eq_of_lt h

      go : Dec (r < 7) → get_or next (suc x / 8) 0 % 2 ^ (8 - suc x % 8) ≡ 0
      go (yes h) =
          let e : suc x / 8 ≡ i = omega arith in
          let f : 8 - suc x % 8 ≡ 7 - r = omega arith in
          ap₂ (λ (y z : ℕ). get_or next y 0 % 2 ^ z) e f ∙ ap (λ (y : ℕ). y % q) at_i ∙ byte.low
      go (no h) =
          let e : suc x / 8 ≡ suc i = omega arith in
          ap (λ (y : ℕ). get_or next y 0 % 2 ^ (8 - suc x % 8)) e ∙ ap (λ (y : ℕ). y % 2 ^ (8 - suc x % 8))
          (at_other (suc i) (λ z. omega arith) ∙ w.zeros (suc i) (omega arith))
          ∙ no-rest (2 ^ (8 - suc x % 8)) (pow_pos (8 - suc x % 8))

  pub row_next : Row next (suc x)
  row_next =
      record {
        size = length-set row i (b + p * q) ∙ w.size;
        octets = octet-next;
        clear = clear_next;
        zeros = λ j h. at_other j (λ e. omega arith) ∙ w.zeros j (omega arith);
      }
