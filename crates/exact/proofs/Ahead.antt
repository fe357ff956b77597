-- How a code goes on from a state, whatever is coded next: the settled bytes stay, the code's value lies in the state's
-- interval, the bytes are lawful, and none is missing or in vain. All by going back from the end, one small step at a
-- time; fractions are compared multiplied out. Assumes nothing.
use mathlib.Core.Path.{◌≡◌, refl, sym, ap, ◌∙◌, subst}
use Prim.Native.Nat.{ℕ, zero, suc, ◌+◌, ◌-◌, ◌*◌, ◌^◌, ◌≤◌, ◌<◌}
use native.Mathlib.Nat.{mul-le-mul_right, pos_of_ne-zero}
use native.Mathlib.Omega.{arith}
use mathlib.Core.List.{List, [], ◌∷◌, ◌++◌, append_assoc}
use lib.ListN.{take}
use lib.Dec.{eqb, eqb→eq}
use lib.Pow.{pow_pos}
use Rattle.ground.proofs.Tests.{by_cond, neqb→ne}
use Rattle.octets.specs.Unit.{unit}
use Rattle.octets.proofs.Unit.{unit-pred, unit-zero, unit-pos}
use Rattle.interval.specs.declared.Interval.{Interval}
use Rattle.octets.specs.Octets.{Registers, bits, carried, byte, double, pad, pads, last_byte, cover, bytes, follows}
use Rattle.octets.specs.Octets.{ended}
use Rattle.octets.proofs.Fit.{upper, lower, Byte, made, byte-until, byte-few, byte-scale}
use Rattle.octets.specs.Fit.{Fit, Rest}
use Rattle.octets.proofs.Ending.{Filled, filled, fit-pad, rest-last}
use Rattle.exact.specs.Value.{LawfulBytes, last_of, need, value, places}
use Rattle.exact.proofs.Value.{value-one, value-cons, places-cons, places-more, head-le}
use Rattle.exact.proofs.End.{Tail, tail-last}
use Rattle.exact.proofs.Back.{half-floor, half-prefix, half-roof, half-roof-pad, upper-floor, upper-prefix}
use Rattle.exact.proofs.Back.{lower-roof, byte-floor, byte-prefix, byte-roof, stuffed}

-- From w on, the code `all` goes on with b, which is the held byte or one more, and then bs: the bytes made, which
-- cover n bits and of which none is in vain, and what follows the last.
-- floor and roof: the value of b and bs lies in w's interval. prefix: a part of bs that is not empty falls short by
-- less than its last unit.
pub record Ahead (w : Registers) (all : List ℕ) (n : ℕ) : Type 0 where
  pub b : ℕ
  pub bs : List ℕ
  pub joined : all ≡ w.settled ++ (b ∷ bs)
  pub least : w.held ≤ b
  pub most : b ≤ suc w.held
  pub top : b ≤ 255
  pub full : w.held ≡ 255 → b ≡ 255
  pub lawful : LawfulBytes b bs
  pub made : List ℕ
  pub split : bs ≡ made ++ follows (last_of b made)
  pub covers : n ≤ places b made
  pub wanted : need b made ≤ n
  pub floor : (w.held * unit w.until + w.interval.low) * 2 ^ places b bs ≤ value (b ∷ bs) * unit w.until
  pub roof : value (b ∷ bs) * unit w.until < (w.held * unit w.until + w.interval.low + w.interval.width) * 2
      ^ places b bs
  pub prefix : (k : ℕ) → (w.held * unit w.until + w.interval.low) * 2 ^ places b (take (suc k) bs) <
      (value (b ∷ take (suc k) bs) + 1) * unit w.until

pub ahead-covers : (w : Registers) (all : List ℕ) (n : ℕ) (i : Ahead w all n) → n ≤ places i.b i.bs
ahead-covers w all n i =
    rw i.split (omega (arith, i.covers, places-more i.b i.made (follows (last_of i.b i.made))))

-- ---- a step back that leaves the bytes as they are: the bounds are all that changes
module _ (w : Registers) (j : Interval) (t : ℕ) (all : List ℕ) (n : ℕ)
    (i : Ahead (record { interval = j; until = t; held = w.held; settled = w.settled }) all n) where
  ahead-by : (w.held * unit w.until + w.interval.low) * 2 ^ places i.b i.bs ≤ value (i.b ∷ i.bs) *
      unit w.until
      → value (i.b ∷ i.bs) * unit w.until < (w.held * unit w.until + w.interval.low + w.interval.width) *
      2 ^ places i.b i.bs
      → ((k : ℕ) → (w.held * unit w.until + w.interval.low) * 2 ^ places i.b (take (suc k) i.bs) <
      (value (i.b ∷ take (suc k) i.bs) + 1) * unit w.until)
      → Ahead w all n
  ahead-by floor roof prefix =
      record {
        b = i.b;
        bs = i.bs;
        joined = i.joined;
        least = i.least;
        most = i.most;
        top = i.top;
        full = i.full;
        lawful = i.lawful;
        made = i.made;
        split = i.split;
        covers = i.covers;
        wanted = i.wanted;
        floor = floor;
        roof = roof;
        prefix = prefix;
      }

unit-before : (w : Registers) → Rest w → unit (w.until - 1) ≡ 2 * unit w.until
unit-before w r = unit-pred w.until r.wait (omega (arith, r.fit.few))

pub ahead-double : (w : Registers) (all : List ℕ) (n : ℕ) → Rest w → Ahead (double w) all n → Ahead w all n
ahead-double w all n r i =
    ahead-by w _ _ all n i (half-floor w.held (unit w.until) (unit (w.until - 1)) w.interval.low _ _
    (unit-before w r) i.floor)
    (half-roof w.held (unit w.until) (unit (w.until - 1)) w.interval.low w.interval.width _ _
    (unit-before w r) i.roof)
    (λ k. half-prefix w.held (unit w.until) (unit (w.until - 1)) w.interval.low _ _ (unit-before w r)
    (i.prefix k))

ahead-pad : (w : Registers) (all : List ℕ) (n : ℕ) → Rest w → Ahead (pad w) all n → Ahead w all n
ahead-pad w all n r i =
    ahead-by w _ _ all n i (half-floor w.held (unit w.until) (unit (w.until - 1)) w.interval.low _ _
    (unit-before w r) i.floor)
    (half-roof-pad w.held (unit w.until) (unit (w.until - 1)) w.interval.low w.interval.width _ _
    (unit-before w r) i.roof)
    (λ k. half-prefix w.held (unit w.until) (unit (w.until - 1)) w.interval.low _ _ (unit-before w r)
    (i.prefix k))

pub ahead_upper : (q : ℕ) (w : Registers) (all : List ℕ) (n : ℕ) → q ≤ w.interval.width → Ahead (upper q w) all n
    → Ahead w all n
ahead_upper q w all n h i =
    ahead-by w _ _ all n i (upper-floor q (w.held * unit w.until) w.interval.low _ _ i.floor)
    (subst (λ (x : ℕ). value (i.b ∷ i.bs) * unit w.until < x * 2 ^ places i.b i.bs) (omega arith) i.roof)
    (λ k. upper-prefix q (w.held * unit w.until) w.interval.low _ _ (i.prefix k))

pub ahead_lower : (q : ℕ) (w : Registers) (all : List ℕ) (n : ℕ) → q ≤ w.interval.width → Ahead (lower q w) all n
    → Ahead w all n
ahead_lower q w all n h i = ahead-by w _ _ all n i i.floor (lower-roof q (w.held * unit w.until)
    w.interval.low w.interval.width _ _ h i.roof) i.prefix

-- ---- a byte back
need-some : (b d : ℕ) (ds : List ℕ) → 1 ≤ need b (d ∷ ds)
unfolding need
need-some b d [] = omega arith
need-some b d (e ∷ es) = omega (arith, need-some d e es)

need-cons : (b d : ℕ) (ds : List ℕ) (n : ℕ) → 1 ≤ n → need d ds ≤ n - bits b → need b (d ∷ ds) ≤ n
unfolding need
need-cons b d [] n h p = h
need-cons b d (x ∷ xs) n h p = omega (arith, need-some d x xs)

covers-cons : (b d : ℕ) (ds : List ℕ) (n : ℕ) → n - bits b ≤ places d ds → n ≤ places b (d ∷ ds)
unfolding places
covers-cons b d ds n p = omega arith

pub byte_width : (w : Registers) → (byte w).interval.width ≡ w.interval.width
unfolding byte
byte_width w = refl

pub byte-settled : (w : Registers) → (byte w).settled ≡ w.settled ++ (carried w.held w.interval.low ∷ [])
unfolding byte
byte-settled w = refl

module _ (w : Registers) (all : List ℕ) (n : ℕ) (z : w.until ≡ 0) (m : Byte w)
    (i : Ahead (byte w) all (n - (byte w).until)) where
  abbrev B : ℕ
  B = carried w.held w.interval.low

  abbrev p : ℕ
  p = 2 ^ (byte w).until

  abbrev u : ℕ
  u = unit (byte w).until

  due-unit : unit w.until ≡ 16777216
  due-unit = ap unit z ∙ unit-zero

  short : (k : ℕ) → ((byte w).held * u + (byte w).interval.low) * 2 ^ places i.b (take k i.bs) <
      (value (i.b ∷ take k i.bs) + 1) * u
  unfolding places
  short zero =
      subst (λ (x : ℕ). ((byte w).held * u + (byte w).interval.low) * 1 < (x + 1) * u) (sym (value-one i.b))
      (omega (arith, m.part, mul-le-mul_right u i.least))
  short (suc k) = i.prefix k

  prefix_then : (k : ℕ) → (w.held * unit w.until + w.interval.low) * 2 ^ places B (i.b ∷ take k i.bs) <
      (value (B ∷ i.b ∷ take k i.bs) + 1) * unit w.until
  prefix_then k =
      rw (due-unit, places-cons B i.b (take k i.bs), value-cons B i.b (take k i.bs), ← byte-until w)
      (byte-prefix w.held w.interval.low B (byte w).held (byte w).interval.low p u
      (2 ^ places i.b (take k i.bs)) (value (i.b ∷ take k i.bs)) m.whole (byte-scale w)
      (pow_pos (byte w).until) (short k))

  abbrev K : ℕ
  K = 2 ^ places i.b i.bs

  abbrev X : ℕ
  X = value (i.b ∷ i.bs)

  roof-now : X * u < ((byte w).held * u + (byte w).interval.low + w.interval.width) * K
  roof-now = subst (λ (a : ℕ). X * u < ((byte w).held * u + (byte w).interval.low + a) * K) (byte_width w) i.roof

  ahead-made : 1 ≤ n → Ahead w all n
  ahead-made h =
      record {
        b = B;
        bs = i.b ∷ i.bs;
        joined = i.joined ∙ ap (λ (l : List ℕ). l ++ (i.b ∷ i.bs)) (byte-settled w) ∙ append_assoc w.settled
            (B ∷ []) (i.b ∷ i.bs);
        least = m.least;
        most = m.most;
        top = m.top;
        full = m.full;
        lawful = (
          i.top,
          (λ y. stuffed i.b (byte w).held (byte w).interval.low w.interval.width u K X
              (head-le i.b i.bs) roof-now (m.stuff y)),
          i.lawful,
        );
        made = i.b ∷ i.made;
        split = ap (λ (l : List ℕ). i.b ∷ l) i.split;
        covers = covers-cons B i.b i.made n (subst (λ (k : ℕ). n - k ≤ places i.b i.made) (byte-until w)
            i.covers);
        wanted = need-cons B i.b i.made n h (subst (λ (k : ℕ). need i.b i.made ≤ n - k) (byte-until w)
            i.wanted);
        floor = rw (due-unit, places-cons B i.b i.bs, value-cons B i.b i.bs, ← byte-until w)
            (byte-floor w.held w.interval.low B (byte w).held (byte w).interval.low p u K X m.whole
            (byte-scale w) i.floor);
        roof = rw (due-unit, places-cons B i.b i.bs, value-cons B i.b i.bs, ← byte-until w)
            (byte-roof w.held w.interval.low B (byte w).held (byte w).interval.low p u K X m.whole
            (byte-scale w) w.interval.width (pow_pos (byte w).until) roof-now);
        prefix = prefix_then;
      }

pub ahead-byte : (w : Registers) (all : List ℕ) (n : ℕ) → Fit w → w.until ≡ 0 → 1 ≤ n
    → Ahead (byte w) all (n - (byte w).until) → Ahead w all n
ahead-byte w all n f z h i = ahead-made w all n z (made w f z) i h

-- ---- the end
ahead-pads : (j : ℕ) (w : Registers) (all : List ℕ) (n : ℕ) → Fit w → w.until ≡ j → Ahead (pads j w) all n
    → Ahead w all n
unfolding pads
ahead-pads zero w all n f e i = i
ahead-pads (suc j) w all n f e i =
    let r : Rest w = record { fit = f; wait = omega arith } in
    ahead-pad w all n r (ahead-pads j (pad w) all n (fit-pad w r) (omega arith) i)

ahead-last : (w : Registers) (all : List ℕ) (n : ℕ) → Rest w → 1 ≤ n → Ahead (last_byte w) all (n - (last_byte w).until)
    → Ahead w all n
ahead-last w all n r h i =
    let k : Filled (pads w.until w) = filled w.until w r.fit refl in
    ahead-pads w.until w all n r.fit refl (ahead-byte (pads w.until w) all n k.fit k.due h i)

-- what follows a last byte: lawful after it, and with no value of its own, in part or whole
record Behind (h : ℕ) (l : List ℕ) : Type 0 where
  lawful : LawfulBytes h l
  whole : value (h ∷ l) ≡ h * 2 ^ places h l
  part : (k : ℕ) → value (h ∷ take (suc k) l) ≡ h * 2 ^ places h (take (suc k) l)

one-zero : (h : ℕ) → value (h ∷ 0 ∷ []) ≡ h * 2 ^ places h (0 ∷ [])
unfolding value
one-zero h = omega arith

follows-behind : (h : ℕ) → Behind h (follows h)
unfolding follows value
follows-behind h =
    by_cond (Behind h) (eqb h 255) (0 ∷ []) []
    (λ t. record { lawful = (omega arith, λ y. omega arith, tt); whole = one-zero h; part = λ k. some k })
    (λ t. record { lawful = tt; whole = omega arith; part = λ k. omega arith })
  where
    some : (k : ℕ) → value (h ∷ take (suc k) (0 ∷ [])) ≡ h * 2 ^ places h (take (suc k) (0 ∷ []))
    some zero = one-zero h
    some (suc k) = one-zero h

-- nothing is left: the held byte is the last made
ahead-stop : (w : Registers) (r : ℕ) → Rest w → r ≡ 0 → w.interval.low ≡ 0 → Ahead w (ended w) r
unfolding ended bytes places need
ahead-stop w r f z e =
    let p : 1 ≤ unit w.until = unit-pos w.until in
    let k : Behind w.held (follows w.held) = follows-behind w.held in
    let some : 1 ≤ 2 ^ places w.held (follows w.held) = pow_pos _ in
    record {
      b = w.held;
      bs = follows w.held;
      joined = append_assoc w.settled (w.held ∷ []) (follows w.held);
      least = omega arith;
      most = omega arith;
      top = f.fit.octet;
      full = λ y. y;
      lawful = k.lawful;
      made = [];
      split = refl;
      covers = omega arith;
      wanted = omega arith;
      floor = rw (k.whole, e) (omega arith);
      roof = rw (k.whole, e)
          (omega (arith, mul-le-mul_right (2 ^ places w.held (follows w.held)) f.fit.some));
      prefix = λ n. rw (k.part n, e) (omega arith);
    }

pub ahead-cover : (j r : ℕ) (w : Registers) → Rest w → Tail r w → r ≤ 7 * j → Ahead w (ended (cover j r w)) r
unfolding cover
ahead-cover zero r w f k h = ahead-stop w r f (omega arith) (k.clear (omega arith))
ahead-cover (suc j) r w f k h =
    by_cond (λ (v : Registers). Ahead w (ended v) r) (eqb r 0) w (cover j (r - (last_byte w).until) (last_byte w))
    (λ t. ahead-stop w r f (eqb→eq r 0 t) (k.clear (eqb→eq r 0 t)))
    (λ t. ahead-last w _ r f (pos_of_ne-zero (neqb→ne r 0 t))
    (ahead-cover j (r - (last_byte w).until) (last_byte w) (rest-last w f) (tail-last r w f k)
    (omega (arith, byte-few (pads w.until w)))))
