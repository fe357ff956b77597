-- The end as a loop meets it: a last byte is one move of zeros and a byte. Assumes nothing.
use mathlib.Core.Path.{◌≡◌, refl, sym, ap, ◌∙◌, subst}
use mathlib.Core.Logic.{◌≢◌}
use Prim.Native.Nat.{ℕ, zero, suc, ◌+◌, ◌-◌, ◌*◌, ◌%◌, ◌^◌, ◌≤◌, ◌<◌}
use native.Mathlib.Nat.{mul-one, add-zero, sub-zero}
use native.Mathlib.Numerals.{add-one}
use native.Mathlib.Omega.{arith}
use mathlib.Core.List.{List, [], ◌∷◌, ◌++◌, append_assoc}
use lib.ListN.{length, take, set, length-set}
use lib.Seq.{take-suc-set, take-set-le}
use lib.Dec.{eqb}
use Rattle.ground.proofs.Tests.{by_cond, if-ne}
use Rattle.interval.specs.declared.Interval.{Interval}
use Rattle.octets.specs.declared.Byte.{Byte}
use Rattle.octets.specs.Octets.{Registers, bits, carried, left, byte, pad, pads, last_byte, cover, finish, bytes}
use Rattle.octets.specs.Octets.{follows, ended}
use Rattle.octets.specs.Unit.{unit}
use Rattle.octets.proofs.Unit.{unit-pred, unit-zero}
use Rattle.octets.specs.Fit.{Fit, Rest}
use Rattle.octets.proofs.Fit.{fit-byte, byte-few, bits-few}
use Rattle.octets.proofs.Loops.{behind, behind-cover}
use Rattle.octets.specs.Lift.{Out}
use Rattle.ground.proofs.Powers.{double-first}

-- ---- zeros are shifted in
pub fit-pad : (w : Registers) → Rest w → Fit (pad w)
fit-pad w r =
    record {
      few = omega (arith, r.fit.few);
      octet = r.fit.octet;
      some = r.fit.some;
      narrow = r.fit.narrow;
      under = omega (arith, r.fit.under, unit-pred w.until r.wait (omega (arith, r.fit.few)));
    }

pub record Filled (v : Registers) : Type 0 where
  pub fit : Fit v
  pub due : v.until ≡ 0

pub filled : (n : ℕ) (w : Registers) → Fit w → w.until ≡ n → Filled (pads n w)
unfolding pads
filled zero w f e = record { fit = f; due = e }
filled (suc n) w f e = filled n (pad w) (fit-pad w (record { fit = f; wait = omega arith })) (omega arith)

pub rest-last : (w : Registers) → Rest w → Rest (last_byte w)
rest-last w r =
    let k : Filled (pads w.until w) = filled w.until w r.fit refl in
    record { fit = fit-byte _ k.fit k.due; wait = omega (arith, byte-few (pads w.until w)) }

-- n zeros at once
shifted : (n : ℕ) (w : Registers) → pads n w
    ≡ record {
      interval = record {
        low = w.interval.low * 2 ^ n;
        width = w.interval.width;
        count = w.interval.count;
      };
      until = w.until - n;
      held = w.held;
      settled = w.settled;
    }
unfolding pads
shifted zero w =
    λ i. record {
      interval = record {
        low = sym (mul-one w.interval.low) i;
        width = w.interval.width;
        count = w.interval.count;
      };
      until = sym (sub-zero w.until) i;
      held = w.held;
      settled = w.settled;
    }
shifted (suc n) w =
    shifted n (pad w)
    ∙ (λ i. record {
      interval = record {
        low = double-first w.interval.low n i;
        width = w.interval.width;
        count = w.interval.count;
      };
      until = down w.until i;
      held = w.held;
      settled = w.settled;
    })
  where
    down : (t : ℕ) → t - 1 - n ≡ t - suc n
    down t = omega arith

-- ---- the loop. The interval's width and count stay; n bytes stand in xs, and r bits are in no byte
abbrev pub stays : Interval → ℕ → ℕ → ℕ → Registers
stays i low until held = record {
  interval = record { low = low; width = i.width; count = i.count };
  until = until;
  held = held;
  settled = [];
}

pub record Ending (i : Interval) (all xs : List ℕ) (low until held r n : ℕ) : Type 0 where
  pub k : ℕ
  pub fuel : k + n ≡ 4
  pub few : r ≤ 7 * k
  pub rest : Rest (stays i low until held)
  pub size : length xs ≡ 6
  pub same : take n xs ++ ended (cover k r (stays i low until held)) ≡ all

pub ending-start : (i : Interval) (xs : List ℕ) (low until held r : ℕ) → length xs ≡ 6 → Rest (stays i low until held)
    → r ≡ 24 - until
    → Ending i (ended (finish (stays i low until held))) xs low until held r 0
unfolding finish
ending-start i xs low until held r l q e =
    record {
      k = 4;
      fuel = refl;
      few = omega (arith, q.wait);
      rest = q;
      size = l;
      same = ap (λ (m : ℕ). ended (cover 4 m (stays i low until held))) e;
    }

-- before a last byte there is room in the registers
pub ending-low : (i : Interval) (low until held : ℕ) → Rest (stays i low until held) → low * 2 ^ until < 33554432
ending-low i low until held r =
    let f : Filled (pads until (stays i low until held)) = filled until (stays i low until held) r.fit refl in
    let e : (pads until (stays i low until held)).interval.low ≡ low * 2 ^ until =
    ap (λ (w : Registers). w.interval.low) (shifted until (stays i low until held)) in
    omega (arith, f.fit.under, ap unit f.due ∙ unit-zero)

cover-some : (k r : ℕ) (w : Registers) → r ≢ 0 → cover (suc k) r w ≡ cover k (r - (last_byte w).until) (last_byte w)
unfolding cover
cover-some k r w h = if-ne r 0 w (cover k (r - (last_byte w).until) (last_byte w)) h

cover-none : (k : ℕ) (w : Registers) → cover k 0 w ≡ w
unfolding cover
cover-none zero w = refl
cover-none (suc k) w = refl

pub ended-behind : (xs : List ℕ) (w : Registers) → ended (behind xs w) ≡ xs ++ ended w
unfolding ended bytes
ended-behind xs w =
    ap (λ (l : List ℕ). l ++ follows w.held) (append_assoc xs w.settled (w.held ∷ []))
    ∙ append_assoc xs (w.settled ++ (w.held ∷ [])) (follows w.held)

module _ (i : Interval) (low until held : ℕ) (v : Byte) (o : Out held (low * 2 ^ until) 1 v) where
  last_byte_lem : last_byte (stays i low until held) ≡ behind (v.settled ∷ []) (stays i v.low v.bits v.held)
  unfolding byte
  last_byte_lem =
      ap byte (shifted until (stays i low until held))
      ∙ (λ t. record {
        interval = record { low = lows t; width = i.width; count = i.count };
        until = sym o.bits' t;
        held = sym o.held t;
        settled = sym o.byte t ∷ [];
      })
    where
      lows : left held (low * 2 ^ until) % 2 ^ (24 - bits (carried held (low * 2 ^ until))) ≡ v.low
      lows = sym (o.low ∙ mul-one _)

  rest-next : Rest (stays i low until held) → Rest (stays i v.low v.bits v.held)
  rest-next r =
      let k : Rest (behind (v.settled ∷ []) (stays i v.low v.bits v.held)) = subst Rest last_byte_lem
      (rest-last (stays i low until held) r) in
      record {
        fit = record {
          few = k.fit.few;
          octet = k.fit.octet;
          some = k.fit.some;
          narrow = k.fit.narrow;
          under = k.fit.under;
        };
        wait = k.wait;
      }

  next-bytes : (k r : ℕ) → r ≢ 0 → ended (cover (suc k) r (stays i low until held)) ≡ v.settled
      ∷ ended (cover k (r - v.bits) (stays i v.low v.bits v.held))
  next-bytes k r h =
      ap ended (cover-some k r (stays i low until held) h ∙ ap (λ (w : Registers). cover k (r - w.until) w) last_byte_lem
      ∙ behind-cover k (r - v.bits) (v.settled ∷ []) (stays i v.low v.bits v.held))
      ∙ ended-behind (v.settled ∷ []) (cover k (r - v.bits) (stays i v.low v.bits v.held))

  seven-next : 7 ≤ v.bits
  seven-next = rw o.bits' (bits-few (carried held (low * 2 ^ until))).0

  again : (all xs : List ℕ) (r n k : ℕ) → k + n ≡ 4 → r ≤ 7 * k → Rest (stays i low until held) → length xs ≡ 6
      → take n xs ++ ended (cover k r (stays i low until held)) ≡ all
      → r ≢ 0 → Ending i all (set xs n v.settled) v.low v.bits v.held (r - v.bits) (suc n)
  again all xs r n zero f w q l s h = absurd (h (omega arith))
  again all xs r n (suc k) f w q l s h =
      record {
        k = k;
        fuel = omega arith;
        few = omega (arith, seven-next);
        rest = rest-next q;
        size = length-set xs n v.settled ∙ l;
        same =
            ap (λ (ys : List ℕ). ys ++ ended (cover k (r - v.bits) (stays i v.low v.bits v.held)))
            (take-suc-set xs n v.settled (omega arith))
            ∙ append_assoc (take n xs) (v.settled ∷ [])
            (ended (cover k (r - v.bits) (stays i v.low v.bits v.held)))
            ∙ ap (λ (ys : List ℕ). take n xs ++ ys) (sym (next-bytes k r h)) ∙ s;
      }

  pub ending-again : (all xs : List ℕ) (r n : ℕ) → Ending i all xs low until held r n → r ≢ 0
      → Ending i all (set xs n v.settled) v.low v.bits v.held (r - v.bits) (suc n)
  ending-again all xs r n e h = again all xs r n e.k e.fuel e.few e.rest e.size e.same h

-- all bits are covered: the held byte is the last, and where it is FF a byte 00 follows
module _ (i : Interval) (all xs : List ℕ) (low until held n : ℕ) (e : Ending i all xs low until held 0 n) where
  last : take n xs ++ ((held ∷ []) ++ follows held) ≡ all
  unfolding bytes ended
  last = ap (λ (w : Registers). take n xs ++ ended w) (sym (cover-none e.k (stays i low until held))) ∙ e.same

  with-last : take (suc n) (set xs n held) ≡ take n xs ++ (held ∷ [])
  with-last = take-suc-set xs n held (omega (arith, e.size, e.fuel))

  two : take (suc (suc n)) (set (set xs n held) (suc n) 0) ≡ take n xs ++ (held ∷ 0 ∷ [])
  two =
      take-suc-set (set xs n held) (suc n) 0 (omega (arith, length-set xs n held, e.size, e.fuel))
      ∙ ap (λ (l : List ℕ). l ++ (0 ∷ [])) with-last ∙ append_assoc (take n xs) (held ∷ []) (0 ∷ [])

  one : take (suc n) (set (set xs n held) (suc n) 0) ≡ take n xs ++ (held ∷ [])
  one = take-set-le (suc n) (set xs n held) (suc n) 0 (omega arith) ∙ with-last

  pub ending-end : (m : ℕ) → m ≡ length (follows held) → take (n + 1 + m) (set (set xs n held) (n + 1) 0) ≡ all
  unfolding follows
  ending-end m h =
      ap (λ (k : ℕ). take (n + 1 + k) (set (set xs n held) (n + 1) 0)) h
      ∙ by_cond (λ (l : List ℕ). take (n + 1 + length l) (set (set xs n held) (n + 1) 0) ≡ take n xs ++ (held ∷ l))
      (eqb held 255) (0 ∷ []) [] (λ t. simp add-one two) (λ t. simp (add-one, add-zero) one) ∙ last
