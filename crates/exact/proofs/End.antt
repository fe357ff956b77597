-- The end of a code: at most four bytes, after which nothing of the lower end is left; so the value of the code is the
-- final lower end. Assumes nothing.
use mathlib.Core.Path.{◌≡◌, refl, sym, ap, ◌∙◌, subst, subst₂}
use Prim.Native.Nat.{ℕ, zero, suc, ◌+◌, ◌-◌, ◌*◌, ◌^◌, ◌≤◌, ◌<◌, ◌∣◌, min}
use native.Mathlib.Nat.{pow-succ', mul_assoc, mul-one, add-zero, dvd_trans, dvd-add, dvd-add_iff_right}
use native.Mathlib.Nat.{dvd-mul_left_of_dvd, dvd-mul_right, dvd_refl, mul-dvd-mul_left, mod-eq-zero_of_dvd}
use native.Mathlib.Nat.{mod-eq_of_lt, add-sub_of_le, one-dvd, eq_of_mul-eq-mul_right, mul_right_comm, add_comm}
use native.Mathlib.Omega.{arith}
use mathlib.Core.List.{List, [], ◌∷◌, ◌++◌, append_assoc, append-nil}
use lib.Dec.{eqb, eqb→eq}
use lib.Pow.{pow-add, pow_pos}
use Rattle.ground.proofs.Tests.{by_cond}
use Rattle.octets.specs.Unit.{unit}
use Rattle.interval.specs.Interval.{Decision, whole}
use Rattle.octets.specs.Octets.{Registers, start, bits, byte, run, pad, pads, last_byte, cover, finish}
use Rattle.octets.specs.Octets.{bytes, follows, ended}
use Rattle.octets.specs.Fit.{Fit, Rest}
use Rattle.octets.proofs.Fit.{Byte, made, byte-few, AllSized, ready-run, ready-start}
use Rattle.octets.proofs.Ending.{Filled, filled, fit-pad, rest-last}
use Rattle.exact.specs.Value.{value, places, exact}
use Rattle.exact.proofs.Value.{places-snoc, value-snoc}
use Rattle.exact.proofs.Agree.{Agree, agree-pad, agree-byte, same-run, same_start}
use Rattle.ground.proofs.Powers.{double-first}

agree-pads : (n : ℕ) (w : Registers) (low m : ℕ) → Fit w → w.until ≡ n → Agree w low m
    → Agree (pads n w) (low * 2 ^ n) (m + n)
unfolding pads
agree-pads zero w low m f e g = rw (add-zero, mul-one) g
agree-pads (suc n) w low m f e g =
    let r : Rest w = record { fit = f; wait = omega arith } in
    let i : Agree (pads n (pad w)) (2 * low * 2 ^ n) (suc m + n) = agree-pads n (pad w) (2 * low) (suc m) (fit-pad w r)
    (omega arith) (agree-pad w low m r g) in
    subst₂ (λ (x y : ℕ). Agree (pads n (pad w)) x y) (double-first low n) (omega arith) i

agree-last : (w : Registers) (low m : ℕ) → Rest w → Agree w low m → Agree (last_byte w) (low * 2 ^ w.until)
    (m + w.until)
agree-last w low m r g =
    let k : Filled (pads w.until w) = filled w.until w r.fit refl in
    agree-byte _ (low * 2 ^ w.until) (m + w.until) k.fit k.due (agree-pads w.until w low m r.fit refl g)

-- some zeros later
abbrev pub Later : Registers → ℕ → ℕ → Type 0
Later v low m = (z : ℕ) × Agree v (low * 2 ^ z) (m + z)

agree-cover : (n r : ℕ) (w : Registers) (low m : ℕ) → Rest w → Agree w low m → Later (cover n r w) low m
unfolding cover
agree-cover zero r w low m f g = (0, rw (add-zero, mul-one) g)
agree-cover (suc n) r w low m f g =
    by_cond (λ (v : Registers). Later v low m) (eqb r 0) w (cover n (r - (last_byte w).until) (last_byte w))
    (λ t. (0, rw (add-zero, mul-one) g))
    (λ t. more _ low m w.until (agree-cover n (r - (last_byte w).until) (last_byte w) (low * 2 ^ w.until)
    (m + w.until) (rest-last w f) (agree-last w low m f g)))
  where
    more : (v : Registers) (low m k : ℕ) → Later v (low * 2 ^ k) (m + k) → Later v low m
    more v low m k i = (
      k + i.0,
      subst₂ (λ (x y : ℕ). Agree v x y) (mul_assoc low (2 ^ k) (2 ^ i.0) ∙ ap (λ (x : ℕ). low * x)
          (sym (pow-add 2 k i.0))) (omega arith) i.1,
    )

-- ---- nothing is left

-- r bits of the lower end are in no byte, and the bits of c after them are zero
pub record Tail (r : ℕ) (w : Registers) : Type 0 where
  pub zeros : ℕ
  pub fits : zeros + r ≡ 24 - w.until
  pub even : 2 ^ zeros ∣ w.interval.low
  pub clear : r ≡ 0 → w.interval.low ≡ 0

pow-dvd : (i j : ℕ) → i ≤ j → 2 ^ i ∣ 2 ^ j
pow-dvd i j h = subst (λ (x : ℕ). 2 ^ i ∣ x) (sym (pow-add 2 i (j - i)) ∙ ap (λ (x : ℕ). 2 ^ x) (add-sub_of_le h))
    (dvd-mul_right (2 ^ i) (2 ^ (j - i)))

-- what divides the rest divides c'
keeps : (p h c b u h' c' : ℕ) → h * 16777216 + c ≡ b * 16777216 + (h' * u + c') → p ∣ 16777216 → p ∣ c → p ∣ u → p ∣ c'
keeps p h c b u h' c' e d1 d2 d3 =
    (dvd-add_iff_right p (dvd-mul_left_of_dvd p d3 h')).1
    ((dvd-add_iff_right p (dvd-mul_left_of_dvd p d1 b)).1
    (subst (λ (x : ℕ). p ∣ x) e (dvd-add p (dvd-mul_left_of_dvd p d1 h) d2)))

none_left : (u c : ℕ) → u ∣ c → c < u → c ≡ 0
none_left u c d h = sym (mod-eq_of_lt h) ∙ mod-eq-zero_of_dvd u d

tail-pads : (n r : ℕ) (w : Registers) → w.until ≡ n → n ≤ 12 → Tail r w → Tail r (pads n w)
unfolding pads
tail-pads zero r w e h k = k
tail-pads (suc n) r w e h k =
    tail-pads n r (pad w) (omega arith) (omega arith)
    (record {
      zeros = suc k.zeros;
      fits = omega (arith, k.fits);
      even = rw (pow-succ' 2 k.zeros) (mul-dvd-mul_left (2 ^ k.zeros) 2 k.even);
      clear = λ z. ap (λ (x : ℕ). 2 * x) (k.clear z);
    })

tail-made : (r : ℕ) (w : Registers) → w.until ≡ 0 → Byte w → Tail r w → Tail (r - (byte w).until) (byte w)
unfolding unit
tail-made r w z m k =
    let t : ℕ = 24 - (byte w).until in
    record {
      zeros = min k.zeros t;
      fits = omega (arith, k.fits, z, byte-few w);
      even = keeps (2 ^ min k.zeros t) _ _ _ _ _ _ m.whole (pow-dvd _ 24 (omega arith))
          (dvd_trans _ (pow-dvd _ k.zeros (omega arith)) k.even) (pow-dvd _ t (omega arith));
      clear = λ y. none_left (2 ^ t) _ (keeps (2 ^ t) _ _ _ _ _ _ m.whole (pow-dvd t 24 (omega arith))
          (dvd_trans _ (pow-dvd t k.zeros (omega (arith, k.fits, y, z, byte-few w))) k.even) (dvd_refl _))
          m.part;
    }

pub tail-last : (r : ℕ) (w : Registers) → Rest w → Tail r w → Tail (r - (last_byte w).until) (last_byte w)
tail-last r w f k =
    let p : Filled (pads w.until w) = filled w.until w f.fit refl in
    tail-made r (pads w.until w) p.due (made _ p.fit p.due) (tail-pads w.until r w refl f.fit.few k)

cover-clear : (n r : ℕ) (w : Registers) → Rest w → Tail r w → r ≤ 7 * n → (cover n r w).interval.low ≡ 0
unfolding cover
cover-clear zero r w f k h = k.clear (omega arith)
cover-clear (suc n) r w f k h =
    by_cond (λ (v : Registers). v.interval.low ≡ 0) (eqb r 0) w (cover n (r - (last_byte w).until) (last_byte w))
    (λ t. k.clear (eqb→eq r 0 t))
    (λ t. cover-clear n (r - (last_byte w).until) (last_byte w) (rest-last w f) (tail-last r w f k)
    (omega (arith, byte-few (pads w.until w))))

pub tail-start : (w : Registers) → Rest w → Tail (24 - w.until) w
tail-start w r =
    record { zeros = 0; fits = omega arith; even = one-dvd w.interval.low; clear = λ z. absurd (go z) }
  where
    go : 24 - w.until ≡ 0 → ⊥
    go z = omega (arith, r.fit.few)

-- ---- the value of all that is written is the final lower end, a fraction of 12 + S bits (8 more with the zero before
-- the code)
scaled : (v low u z p n : ℕ) → v * 2 ^ u ≡ low * 2 ^ z → p + u ≡ n + z → v * 2 ^ n ≡ low * 2 ^ p
scaled v low u z p n e h =
    eq_of_mul-eq-mul_right (2 ^ u) (pow_pos u) (v * 2 ^ n) (low * 2 ^ p)
    (mul_right_comm v (2 ^ n) (2 ^ u) ∙ ap (λ (x : ℕ). x * 2 ^ n) e ∙ mul_assoc low (2 ^ z) (2 ^ n)
    ∙ ap (λ (x : ℕ). low * x) (sym (pow-add 2 z n) ∙ ap (λ (x : ℕ). 2 ^ x) (add_comm z n ∙ sym h) ∙ pow-add 2 p u)
    ∙ sym (mul_assoc low (2 ^ p) (2 ^ u)))

-- a byte 00 after the last brings its zeros
module _ (v : Registers) (low n : ℕ) (e : value (bytes v) * 2 ^ n ≡ low * 2 ^ places 0 (bytes v)) where
  abbrev Valued : List ℕ → Type 0
  Valued l = value l * 2 ^ n ≡ low * 2 ^ places 0 l

  zero-behind : Valued (v.settled ++ (v.held ∷ 0 ∷ []))
  unfolding bytes
  zero-behind =
      rw (
        value-snoc v.settled v.held 0,
        places-snoc 0 v.settled v.held 0,
        pow-add 2 (places 0 (v.settled ++ (v.held ∷ []))) (bits v.held),
      )
      (num (value (v.settled ++ (v.held ∷ []))) (2 ^ n) (2 ^ places 0 (v.settled ++ (v.held ∷ [])))
      (2 ^ bits v.held) e)
    where
      num : (x y z k : ℕ) → x * y ≡ low * z → (x * k + 0) * y ≡ low * (z * k)
      num x y z k h = omega (arith, ap (λ (m : ℕ). m * k) h)

  value-ended : Valued (ended v)
  unfolding ended follows bytes
  value-ended =
      by_cond (λ (l : List ℕ). Valued (bytes v ++ l)) (eqb v.held 255) (0 ∷ []) []
      (λ t. subst Valued (sym (append_assoc v.settled (v.held ∷ []) (0 ∷ []))) zero-behind)
      (λ t. subst Valued (sym (append-nil (bytes v))) e)

value-finish : (w : Registers) (low n : ℕ) → Rest w → Agree w low n → value (ended (finish w)) * 2 ^ n ≡ low * 2 ^
    places 0 (ended (finish w))
unfolding finish unit
value-finish w low n r g =
    let l : Later (finish w) low n = agree-cover 4 (24 - w.until) w low n r g in
    let z : (finish w).interval.low ≡ 0 = cover-clear 4 (24 - w.until) w r (tail-start w r) (omega arith) in
    value-ended (finish w) low n
    (scaled (value (bytes (finish w))) low (24 - (finish w).until) l.0 (places 0 (bytes (finish w))) n
    (omega (arith, l.1.sum)) l.1.reach)

pub value-run : (ds : List Decision) → AllSized ds
    → value (ended (finish (run ds start))) * 2 ^ (20 + (exact ds whole).count) ≡ (exact ds whole).low * 2 ^ places 0
    (ended (finish (run ds start)))
value-run ds z =
    value-finish (run ds start) _ _ (ready-run ds start z ready-start).rest (same-run ds start whole z ready-start
    same_start).agree
