-- At every state the bytes at their places, with what is in no byte yet, are the lower end in exact arithmetic. Assumes
-- nothing.
use mathlib.Core.Path.{◌≡◌, refl, ap, ◌∙◌, subst}
use Prim.Native.Nat.{ℕ, zero, suc, ◌+◌, ◌-◌, ◌*◌, ◌^◌}
use native.Mathlib.Omega.{arith}
use mathlib.Core.Bool.{cond}
use mathlib.Core.List.{List, [], ◌∷◌, ◌++◌, append_assoc}
use lib.Dec.{T, ltb, eqb, ltb→lt, eqb→eq}
use native.Mathlib.Nat.{add-suc}
use Rattle.ground.proofs.Tests.{by_cond, by-cond₂}
use Rattle.octets.specs.Unit.{unit}
use Rattle.octets.proofs.Unit.{unit-pred, unit-zero}
use Rattle.interval.specs.declared.Interval.{Interval}
use Rattle.interval.specs.Interval.{Decision, whole, upper_part, lower_part, part_of, doubled, grown, coded}
use Rattle.octets.specs.Octets.{Registers, at, start, bits, carried, byte, due, double, shifts, part, pel, run, pad}
use Rattle.octets.specs.Octets.{bytes}
use Rattle.octets.specs.Fit.{Fit, Rest, Ready}
use Rattle.octets.proofs.Fit.{Byte, made, byte-until, byte-few, byte-scale, fit-double, due-width, due-count}
use Rattle.octets.proofs.Fit.{rest-shift, rest_part, ready-pel, AllSized}
use Rattle.exact.specs.Value.{value, places, exact}
use Rattle.exact.proofs.Value.{value-last, value-snoc, places-last, places-snoc}

-- the bytes at their place, and what is in no byte, are the lower end; the bits in bytes and in no byte are n (8 of
-- them are the zero's before the code)
pub record Agree (w : Registers) (low n : ℕ) : Type 0 where
  pub sum : value (bytes w) * unit w.until + w.interval.low ≡ low
  pub reach : places 0 (bytes w) + (24 - w.until) ≡ n

bytes-byte : (w : Registers) → bytes (byte w) ≡ w.settled ++ (carried w.held w.interval.low ∷ (byte w).held
    ∷ [])
unfolding bytes byte
bytes-byte w = append_assoc w.settled (carried w.held w.interval.low ∷ []) ((byte w).held ∷ [])

-- the numbers: x and y are the value of the bytes before and after, at 2 ^ 24; p of the unit u are one of theirs
byte-sum : (x y v h c b p u h' c' low : ℕ) → x ≡ v + h → y ≡ v + b → h * 16777216 + c ≡ b * 16777216 + (h' * u + c')
    → p * u ≡ 16777216 → x * 16777216 + c ≡ low → (y * p + h') * u + c' ≡ low
byte-sum x y v h c b p u h' c' low e f m s g = omega (arith, ap (λ (k : ℕ). y * k) s)

agree-made : (w : Registers) (low n : ℕ) → w.until ≡ 0 → Byte w → Agree w low n → Agree (byte w) low n
unfolding bytes
agree-made w low n z m g =
    let b : ℕ = carried w.held w.interval.low in
    record {
      sum =
          rw (bytes-byte w, value-snoc w.settled b (byte w).held, ← byte-until w)
          (byte-sum (value (bytes w)) (value (w.settled ++ (b ∷ []))) (value (w.settled ++ (0 ∷ []))) w.held
          w.interval.low b (2 ^ (byte w).until) (unit (byte w).until) (byte w).held (byte w).interval.low low
          (value-last w.settled w.held) (value-last w.settled b) m.whole (byte-scale w)
          (subst (λ (u : ℕ). value (bytes w) * u + w.interval.low ≡ low) (ap unit z ∙ unit-zero) g.sum));
      reach =
          rw (bytes-byte w, places-snoc 0 w.settled b (byte w).held, ← byte-until w)
          (omega (arith, g.reach, z, byte-few w, places-last 0 w.settled w.held b));
    }

pub agree-byte : (w : Registers) (low n : ℕ) → Fit w → w.until ≡ 0 → Agree w low n → Agree (byte w) low n
agree-byte w low n f z g = agree-made w low n z (made w f z) g

agree-due : (w : Registers) (low n : ℕ) → Fit w → Agree w low n → Agree (due w) low n
unfolding due
agree-due w low n f g =
    by_cond (λ (v : Registers). Agree v low n) (eqb w.until 0) (byte w) w
    (λ t. agree-byte w low n f (eqb→eq w.until 0 t) g) (λ t. g)

agree-double : (w : Registers) (low n : ℕ) → Rest w → Agree w low n → Agree (double w) (2 * low) (suc n)
unfolding bytes
agree-double w low n r g =
    record {
      sum = omega (
        arith,
        g.sum,
        ap (λ (k : ℕ). value (bytes w) * k)
            (unit-pred w.until r.wait (omega (arith, r.fit.few))),
      );
      reach = omega (arith, g.reach, r.wait, r.fit.few);
    }

pub agree-pad : (w : Registers) (low n : ℕ) → Rest w → Agree w low n → Agree (pad w) (2 * low) (suc n)
unfolding bytes
agree-pad w low n r g =
    record {
      sum = omega (
        arith,
        g.sum,
        ap (λ (k : ℕ). value (bytes w) * k)
            (unit-pred w.until r.wait (omega (arith, r.fit.few))),
      );
      reach = omega (arith, g.reach, r.wait, r.fit.few);
    }

-- the registers and the interval, side by side
pub record Same (w : Registers) (e : Interval) : Type 0 where
  pub agree : Agree w e.low (20 + e.count)
  pub wide : w.interval.width ≡ e.width
  pub count : w.interval.count ≡ e.count

same-shift : (w : Registers) (e : Interval) → Rest w → T (ltb w.interval.width 4096) → Same w e
    → Same (due (double w)) (doubled e)
same-shift w e r t m =
    record {
      agree = agree-due (double w) (2 * e.low) (20 + suc e.count)
          (fit-double w r (ltb→lt w.interval.width 4096 t))
          (rw (add-suc 20 e.count) (agree-double w e.low (20 + e.count) r m.agree));
      wide = due-width (double w) ∙ ap (λ (k : ℕ). 2 * k) m.wide;
      count = due-count (double w) ∙ ap suc m.count;
    }

same-shifts : (n : ℕ) (w : Registers) (e : Interval) → Rest w → Same w e → Same (shifts n w) (grown n e)
unfolding shifts grown
same-shifts zero w e r m = m
same-shifts (suc n) w e r m =
    subst (λ (k : ℕ). Same (shifts (suc n) w) (cond (ltb k 4096) (grown n (doubled e)) e)) m.wide
    (by-cond₂ Same (ltb w.interval.width 4096) (shifts n (due (double w))) w (grown n (doubled e)) e
    (λ t. same-shifts n (due (double w)) (doubled e) (rest-shift w r t) (same-shift w e r t m))
    (λ t. m))

same-part : (d : Decision) (w : Registers) (e : Interval) → Same w e → Same (part d w) (part_of d e)
unfolding bytes
same-part d w e m =
    by-cond₂ (λ (i j : Interval). Same (at i w) j) d.expected (upper_part d.q w.interval)
    (lower_part d.q w.interval) (upper_part d.q e) (lower_part d.q e)
    (λ t. record {
      agree = record { sum = omega (arith, m.agree.sum); reach = m.agree.reach };
      wide = ap (λ (k : ℕ). k - d.q) m.wide;
      count = m.count;
    })
    (λ t. record { agree = record { sum = m.agree.sum; reach = m.agree.reach }; wide = refl; count = m.count })

pub same-run : (ds : List Decision) (w : Registers) (e : Interval) → AllSized ds → Ready w → Same w e
    → Same (run ds w) (exact ds e)
unfolding run exact
same-run [] w e z r m = m
same-run (d ∷ ds) w e z r m =
    same-run ds (pel d w) (coded d e) z.1 (ready-pel d w r z.0)
    (same-shifts 12 (part d w) (part_of d e) (rest_part d w r z.0) (same-part d w e m))

pub same_start : Same start whole
unfolding bytes value places unit bits
same_start = record { agree = record { sum = refl; reach = refl }; wide = refl; count = refl }
