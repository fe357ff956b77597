-- The bytes of one pel as the code makes them, all shifts first and the bytes after, are the definition's. Assumes
-- nothing.
use mathlib.Core.Path.{◌≡◌, refl, sym, ap, ap₂, ◌∙◌}
use mathlib.Core.Logic.{◌≢◌}
use Prim.Native.Nat.{ℕ, ◌+◌, ◌-◌, ◌*◌, ◌/◌, ◌%◌, ◌^◌, ◌≤◌, ◌<◌}
use native.Mathlib.Nat.{mul-div-mul_right, mul_assoc, div-add-mod', mod-lt, mul-pos, mul-le-mul_right}
use native.Mathlib.Nat.{div-lt_iff_lt-mul, mul-lt-mul_of_pos_right}
use native.Mathlib.Omega.{arith}
use mathlib.Core.List.{List, [], ◌∷◌, ◌++◌}
use lib.Arith.{digits_mod}
use lib.Pow.{pow-add, pow_pos, pow_mono}
use Rattle.interval.specs.declared.Interval.{Interval}
use Rattle.octets.specs.declared.Byte.{Byte}
use Rattle.octets.specs.Octets.{Registers, bits, carried, left, byte}
use Rattle.octets.proofs.Fit.{carried-ff, carried-else, left-ff, left-else, bits-ff, bits-else, bits-few}
use Rattle.octets.specs.Loops.{steps}
use Rattle.octets.proofs.Loops.{steps-few, steps-at, jump}
use Rattle.octets.specs.Lift.{Small, Out, there}

small_by : (b x m k p : ℕ) → 1 ≤ p → 1 ≤ m → m ≤ 131072 → x < 256 * (m * p) → 7 ≤ k → k ≤ 8
    → Small p (record { settled = b; held = x / (m * p); low = x % (m * p); bits = k })
small_by b x m k p h n o l s e =
    let d : x / (m * p) < 256 = (div-lt_iff_lt-mul {k = m * p} {x = x} {y = 256} (mul-pos n h)).1 l in
    record {
      octet = omega arith;
      seven = s;
      eight = e;
      short = omega (arith, mod-lt x (mul-pos n h), mul-le-mul_right p o);
    }

-- dividing at a scale
scale-div : (c m p : ℕ) → 1 ≤ p → c * p / (m * p) ≡ c / m
scale-div c m p h = mul-div-mul_right c m h

scale-mod : (c m p : ℕ) → 1 ≤ p → 1 ≤ m → c * p % (m * p) ≡ c % m * p
scale-mod c m p h k =
    ap (λ (x : ℕ). x % (m * p)) (split (c / m) (c % m) (sym (div-add-mod' c m))) ∙ digits_mod (c / m)
    (mul-lt-mul_of_pos_right {k = p} (mod-lt c k) h)
  where
    split : (q r : ℕ) → c ≡ q * m + r → c * p ≡ q * (m * p) + r * p
    split q r e = let f : c * p ≡ (q * m + r) * p = ap (λ (x : ℕ). x * p) e in omega arith

-- at most one carry
pub one-carry : (x p : ℕ) → 1 ≤ p → x < 33554432 * p → x / (16777216 * p) ≤ 1
one-carry x p h l = let k : x / (16777216 * p) < 2 = (div-lt_iff_lt-mul {k = 16777216 * p} {x = x} {y = 2}
    (omega arith)).1 (omega arith) in omega arith

-- the three ways of a byte, with the lower end x at the scale p
module _ (h c p x : ℕ) (some : 1 ≤ p) (is : x ≡ c * p) where
  by_out : (b r k m : ℕ) → carried h c ≡ b → left h c ≡ r → bits b ≡ k → 2 ^ (24 - k) ≡ m → 1 ≤ m
      → Out h c p (record { settled = b; held = r * p / (m * p); low = r * p % (m * p); bits = k })
  by_out b r k m e f g n o =
      record {
        byte = sym e;
        bits' = sym (ap bits e ∙ g);
        held = scale-div r m p some ∙ ap₂ (λ (y z : ℕ). y / z) (sym f)
            (sym (ap (λ (z : ℕ). 2 ^ (24 - z)) (ap bits e ∙ g) ∙ n));
        low = scale-mod r m p some o ∙ ap₂ (λ (y z : ℕ). y % z * p) (sym f)
            (sym (ap (λ (z : ℕ). 2 ^ (24 - z)) (ap bits e ∙ g) ∙ n));
      }

  pub out-ff : h ≡ 255 → Out h c p (record { settled = 255; held = x / (131072 * p); low = x % (131072 * p); bits = 7 })
  out-ff e = rw is (by_out 255 c 7 131072 (carried-ff h c e ∙ e) (left-ff h c e) (bits-ff 255 refl) refl (omega arith))

  -- what the code computes of x
  top : x / (16777216 * p) ≡ c / 16777216
  top = rw is (scale-div c 16777216 p some)

  rest : x % (16777216 * p) ≡ c % 16777216 * p
  rest = rw is (scale-mod c 16777216 p some (omega arith))

  pub out-to-ff : h ≢ 255 → h + x / (16777216 * p) ≡ 255
      → Out h c p
      (record {
        settled = 255;
        held = x % (16777216 * p) / (131072 * p);
        low = x % (16777216 * p) % (131072 * p);
        bits = 7;
      })
  out-to-ff n e = rw rest (by_out 255 (c % 16777216) 7 131072 (carried-else h c n ∙ ap (λ (y : ℕ). h + y) (sym top)
      ∙ e) (left-else h c n) (bits-ff 255 refl) refl (omega arith))

  pub out-plain : h ≢ 255 → (b : ℕ) → b ≡ h + x / (16777216 * p) → b ≢ 255
      → Out h c p
      (record {
        settled = b;
        held = x % (16777216 * p) / (65536 * p);
        low = x % (16777216 * p) % (65536 * p);
        bits = 8;
      })
  out-plain n b i e = rw rest (by_out b (c % 16777216) 8 65536 (carried-else h c n ∙ ap (λ (y : ℕ). h + y) (sym top)
      ∙ sym i) (left-else h c n) (bits-else b e) refl (omega arith))

-- the bounds of the three ways
pub small-ff : (x p : ℕ) → 1 ≤ p → x < 33554432 * p
    → Small p (record { settled = 255; held = x / (131072 * p); low = x % (131072 * p); bits = 7 })
small-ff x p h l = small_by 255 x 131072 7 p h (omega arith) (omega arith) (omega arith) (omega arith) (omega arith)

rest-short : (x p : ℕ) → 1 ≤ p → x % (16777216 * p) < 16777216 * p
rest-short x p h = mod-lt x (mul-pos (omega arith) h)

pub small-to-ff : (x p : ℕ) → 1 ≤ p
    → Small p
    (record {
      settled = 255;
      held = x % (16777216 * p) / (131072 * p);
      low = x % (16777216 * p) % (131072 * p);
      bits = 7;
    })
small-to-ff x p h = small_by 255 _ 131072 7 p h (omega arith) (omega arith) (omega (arith, rest-short x p h))
    (omega arith) (omega arith)

pub small_plain : (b x p : ℕ) → 1 ≤ p
    → Small p
    (record { settled = b; held = x % (16777216 * p) / (65536 * p); low = x % (16777216 * p) % (65536 * p); bits = 8 })
small_plain b x p h =
    small_by b _ 65536 8 p h (omega arith) (omega arith) (omega (arith, rest-short x p h)) (omega arith) (omega arith)

-- what is left of the lower end is small enough for the next byte
pub short-next : (x j i k : ℕ) → k + i ≡ j → k ≤ 8 → x < 131072 * 2 ^ j → x < 33554432 * 2 ^ i
short-next x j i k e h l =
    let p : 2 ^ j ≡ 2 ^ k * 2 ^ i = ap (λ (n : ℕ). 2 ^ n) (sym e) ∙ pow-add 2 k i in
    let q : 2 ^ k ≤ 256 = pow_mono {i = k} {j = 8} h in
    omega (arith, mul-le-mul_right (2 ^ i) q)

module _ (xs : List ℕ) (c a s h j : ℕ) (v : Byte) (o : Out h c (2 ^ j) v) where
  made : byte (there xs c a s h)
      ≡ record {
        interval = record { low = left h c % 2 ^ (24 - bits (carried h c)); width = a; count = s };
        until = bits (carried h c);
        held = left h c / 2 ^ (24 - bits (carried h c));
        settled = xs ++ (carried h c ∷ []);
      }
  unfolding byte
  made = refl

  -- fewer shifts than the byte's bits: no other byte
  one_byte : j < v.bits
      → steps j (byte (there xs c a s h))
      ≡ record {
        interval = record { low = v.low; width = a * 2 ^ j; count = s + j };
        until = v.bits - j;
        held = v.held;
        settled = xs ++ (v.settled ∷ []);
      }
  one_byte l =
      steps-few j (byte (there xs c a s h)) (rw made (omega (arith, o.bits'))) ∙ ap (jump j) made
      ∙ (λ i. record {
        interval = record { low = sym o.low i; width = a * 2 ^ j; count = s + j };
        until = sym o.bits' i - j;
        held = sym o.held i;
        settled = xs ++ (sym o.byte i ∷ []);
      })

  -- else the next byte goes out after its bits, with i shifts left
  abbrev pub low_then : ℕ
  low_then = left h c % 2 ^ (24 - bits (carried h c)) * 2 ^ bits (carried h c)

  low-then : (i : ℕ) → v.bits + i ≡ j → v.low ≡ low_then * 2 ^ i
  low-then i e =
      o.low ∙ ap (λ (n : ℕ). left h c % 2 ^ (24 - bits (carried h c)) * 2 ^ n)
      (sym (ap (λ (n : ℕ). n + i) (sym o.bits') ∙ e))
      ∙ ap (λ (n : ℕ). left h c % 2 ^ (24 - bits (carried h c)) * n) (pow-add 2 (bits (carried h c)) i)
      ∙ sym (mul_assoc (left h c % 2 ^ (24 - bits (carried h c))) (2 ^ bits (carried h c)) (2 ^ i))

  bits-some : 1 ≤ bits (carried h c)
  bits-some = omega (arith, bits-few (carried h c))

  abbrev next : Registers
  next = there (xs ++ (v.settled ∷ [])) low_then (a * 2 ^ v.bits) (s + v.bits) v.held

  as-next : byte (jump (bits (carried h c)) (byte (there xs c a s h))) ≡ byte next
  unfolding byte
  as-next = λ t. byte (there (xs ++ (sym o.byte t ∷ [])) low_then (a * 2 ^ sym o.bits' t) (s + sym o.bits' t)
      (sym o.held t))

  next-byte : (i : ℕ) → v.bits + i ≡ j → steps j (byte (there xs c a s h)) ≡ steps i (byte next)
  next-byte i e =
      ap (λ (n : ℕ). steps n (byte (there xs c a s h))) (sym e ∙ ap (λ (n : ℕ). n + i) o.bits')
      ∙ steps-at (bits (carried h c)) i (byte (there xs c a s h)) (ap (λ (w : Registers). w.until) made) bits-some
      ∙ ap (steps i) as-next

-- two bytes
two_bytes : (c a s h j i : ℕ) (v u : Byte) (o : Out h c (2 ^ j) v) → v.bits + i ≡ j
    → Out v.held (low_then [] c a s h j v o) (2 ^ i) u → i < u.bits
    → steps j (byte (there [] c a s h))
    ≡ record {
      interval = record { low = u.low; width = a * 2 ^ j; count = s + j };
      until = u.bits - i;
      held = u.held;
      settled = v.settled ∷ u.settled ∷ [];
    }
two_bytes c a s h j i v u o e q l =
    next-byte [] c a s h j v o i e ∙ one_byte (v.settled ∷ []) (low_then [] c a s h j v o) (a * 2 ^ v.bits)
    (s + v.bits) v.held i u q l
    ∙ (λ t. record {
      interval = record { low = u.low; width = width t; count = count t };
      until = u.bits - i;
      held = u.held;
      settled = v.settled ∷ u.settled ∷ [];
    })
  where
    width : a * 2 ^ v.bits * 2 ^ i ≡ a * 2 ^ j
    width = mul_assoc a (2 ^ v.bits) (2 ^ i) ∙ ap (λ (n : ℕ). a * n) (sym (pow-add 2 v.bits i)
        ∙ ap (λ (n : ℕ). 2 ^ n) e)

    count : s + v.bits + i ≡ s + j
    count = omega arith

pub scale-fits : (j : ℕ) → j ≤ 12 → (1 ≤ 2 ^ j) × (2 ^ j ≤ 4096)
scale-fits j h = (pow_pos j, pow_mono {i = j} {j = 12} h)

-- the two ways of a pel that settles bytes, with the interval after all its shifts
module _ (next : Interval) (h j : ℕ) (v : Byte) (o : (c : ℕ) → next.low ≡ c * 2 ^ j → Out h c (2 ^ j) v) (c a s : ℕ)
    (low : next.low ≡ c * 2 ^ j) (width : next.width ≡ a * 2 ^ j) (count : next.count ≡ s + j) where
  pub settle-one : j < v.bits → steps j (byte (there [] c a s h))
      ≡ record {
        interval = record { low = v.low; width = next.width; count = next.count };
        until = v.bits - j;
        held = v.held;
        settled = v.settled ∷ [];
      }
  settle-one l =
      one_byte [] c a s h j v (o c low) l
      ∙ (λ t. record {
        interval = record { low = v.low; width = sym width t; count = sym count t };
        until = v.bits - j;
        held = v.held;
        settled = v.settled ∷ [];
      })

  pub settle-two : (i : ℕ) (u : Byte) → v.bits + i ≡ j → ((c : ℕ) → v.low ≡ c * 2 ^ i → Out v.held c (2 ^ i) u)
      → i < u.bits → steps j (byte (there [] c a s h))
      ≡ record {
        interval = record { low = u.low; width = next.width; count = next.count };
        until = u.bits - i;
        held = u.held;
        settled = v.settled ∷ u.settled ∷ [];
      }
  settle-two i u e q l =
      two_bytes c a s h j i v u (o c low) e (q (low_then [] c a s h j v (o c low))
      (low-then [] c a s h j v (o c low) i e)) l
      ∙ (λ t. record {
        interval = record { low = u.low; width = sym width t; count = sym count t };
        until = u.bits - i;
        held = u.held;
        settled = v.settled ∷ u.settled ∷ [];
      })
