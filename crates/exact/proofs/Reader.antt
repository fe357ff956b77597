-- The reader beside the writer: on a written code it takes each decision as it was written. Assumes nothing.
use mathlib.Core.Path.{◌≡◌, refl, sym, ap, ◌∙◌, subst, subst₂}
use Prim.Native.Nat.{ℕ, zero, suc, ◌+◌, ◌-◌, ◌*◌, ◌%◌, ◌^◌, ◌≤◌, ◌<◌}
use native.Mathlib.Nat.{lt_of_mul-lt-mul_right, add-zero, pow-succ', mul-le-mul, mod-eq_of_lt, pos_of_ne-zero}
use native.Mathlib.Omega.{arith}
use mathlib.Core.Bool.{true, false, cond, not}
use mathlib.Core.List.{List, [], ◌∷◌, ◌++◌, append_assoc}
use lib.ListN.{drop, take, length, get_or}
use lib.Dec.{T, ltb, eqb, ltb→lt, eqb→eq, lt→ltb}
use lib.Pow.{pow-add, pow_pos, pow_mono}
use lib.Arith.{le→nltb}
use Rattle.ground.proofs.Bools.{is_true}
use Rattle.ground.proofs.Tests.{by_cond, by-cond₂, neqb→ne}
use Rattle.octets.specs.Unit.{unit}
use Rattle.octets.proofs.Unit.{unit-pred, unit-zero, unit-pos}
use Rattle.octets.specs.Octets.{Registers, start, bits, carried, byte, due, double, shifts}
use Rattle.octets.proofs.Fit.{upper, lower, Byte, made, bits-few, byte-until, fit-double, rest-shift}
use Rattle.octets.specs.Fit.{Fit, Rest}
use Rattle.exact.specs.Value.{value, places}
use Rattle.exact.proofs.Value.{places-one, places-snoc, value-snoc, places-split, value-split}
use Rattle.exact.proofs.Ahead.{Ahead, ahead-covers, ahead-double, byte_width, byte-settled}
use Rattle.exact.proofs.Going.{Going, going-due, going-shifts}
use Rattle.exact.specs.Sight.{Sight, opened, more, nearer, supplied, seek, decide, above, under}

-- ---- what the reader has read: of the bytes from w's on, b and then ys and the last; x is their value less the lower
-- end
pub record Sees (r : Sight) (w : Registers) (all : List ℕ) : Type 0 where
  pub b : ℕ
  pub ys : List ℕ
  pub joined : all ≡ w.settled ++ (b ∷ (ys ++ (r.last ∷ r.unread)))
  pub wide : r.width ≡ w.interval.width
  pub place : places b (ys ++ (r.last ∷ [])) ≡ 24 - w.until + r.look
  pub number : r.x + (w.held * unit w.until + w.interval.low) * 2 ^ r.look ≡ value (b ∷ (ys ++ (r.last ∷ [])))

-- ---- lists
cancel : (xs : List ℕ) (ys zs : List ℕ) → xs ++ ys ≡ xs ++ zs → ys ≡ zs
cancel [] ys zs e = e
cancel (x ∷ xs) ys zs e = cancel xs ys zs (ap (λ (l : List ℕ). drop 1 l) e)

take_last : (ys : List ℕ) (l : ℕ) (us : List ℕ) → take (suc (length ys)) (ys ++ (l ∷ us)) ≡ ys ++ (l ∷ [])
take_last [] l us = refl
take_last (y ∷ ys) l us = ap (λ (k : List ℕ). y ∷ k) (take_last ys l us)

-- the state's decomposition and the reader's are one
module _ (r : Sight) (w v : Registers) (all : List ℕ) (n : ℕ) (same : v.settled ≡ w.settled) (g : Sees r w all)
    (i : Ahead v all n) where
  one : i.b ∷ i.bs ≡ g.b ∷ (g.ys ++ (r.last ∷ r.unread))
  one = cancel w.settled _ _ (ap (λ (l : List ℕ). l ++ (i.b ∷ i.bs)) (sym same) ∙ sym i.joined ∙ g.joined)

  meet-b : i.b ≡ g.b
  meet-b = ap (λ (l : List ℕ). get_or l 0 0) one

  meet-bs : i.bs ≡ g.ys ++ (r.last ∷ r.unread)
  meet-bs = ap (λ (l : List ℕ). drop 1 l) one

-- 2 to the place of the last byte read is a unit of the held byte, times the look-ahead
place-unit : (p t l : ℕ) → p ≡ 24 - t + l → 2 ^ p ≡ unit t * 2 ^ l
unfolding unit
place-unit p t l e = ap (λ (k : ℕ). 2 ^ k) e ∙ pow-add 2 (24 - t) l

-- ---- the reader's test tells the pel
expected-num : (h u c q l x X : ℕ) → 1 ≤ u → (h * u + (c + q)) * (u * l) < (X + 1) * u → x + (h * u + c) * l ≡ X
    → q * l ≤ x
expected-num h u c q l x X p k e =
    let m : (h * u + (c + q)) * l * u < (X + 1) * u = omega arith in
    let n : (h * u + (c + q)) * l < X + 1 = lt_of_mul-lt-mul_right u m in
    omega arith

pub expects : (q : ℕ) (r : Sight) (w : Registers) (all : List ℕ) (n : ℕ) → Sees r w all → Ahead (upper q w) all n
    → q * 2 ^ r.look ≤ r.x
expects q r w all n g i =
    let k : (w.held * unit w.until + (w.interval.low + q)) * 2 ^ places g.b (g.ys ++ (r.last ∷ [])) <
    (value (g.b ∷ (g.ys ++ (r.last ∷ []))) + 1) * unit w.until
    = subst₂ (λ (b : ℕ) (l : List ℕ). (w.held * unit w.until + (w.interval.low + q)) * 2 ^ places b l <
    (value (b ∷ l) + 1) * unit w.until)
    (meet-b r w (upper q w) all n refl g i)
    (ap (λ (l : List ℕ). take (suc (length g.ys)) l) (meet-bs r w (upper q w) all n refl g i) ∙ take_last g.ys
    r.last r.unread)
    (i.prefix (length g.ys)) in
    expected-num w.held (unit w.until) w.interval.low q (2 ^ r.look) r.x _ (unit-pos w.until)
    (subst (λ (y : ℕ). (w.held * unit w.until + (w.interval.low + q)) * y <
    (value (g.b ∷ (g.ys ++ (r.last ∷ []))) + 1) * unit w.until) (place-unit _ w.until r.look
    g.place) k)
    g.number

unexpected-num : (h u c q l x X Y K Z : ℕ) → 1 ≤ u → 1 ≤ K → Y ≡ X * K + Z → Y * u < (h * u + c + q) * (u * l * K)
    → x + (h * u + c) * l ≡ X → x < q * l
unexpected-num h u c q l x X Y K Z p p' y k e =
    let m : X * (K * u) < (h * u + c + q) * l * (K * u) = omega (arith, ap (λ (z : ℕ). z * u) y) in
    let n : X < (h * u + c + q) * l = lt_of_mul-lt-mul_right (K * u) m in
    omega arith

pub refuses : (q : ℕ) (r : Sight) (w : Registers) (all : List ℕ) (n : ℕ) → Sees r w all → Ahead (lower q w) all n
    → r.x < q * 2 ^ r.look
refuses q r w all n g i =
    let k : value (g.b ∷ (g.ys ++ (r.last ∷ r.unread))) * unit w.until <
    (w.held * unit w.until + w.interval.low + q) * 2 ^ places g.b (g.ys ++ (r.last ∷ r.unread))
    = subst₂ (λ (b : ℕ) (l : List ℕ). value (b ∷ l) * unit w.until < (w.held * unit w.until + w.interval.low +
    q) * 2 ^ places b l)
    (meet-b r w (lower q w) all n refl g i) (meet-bs r w (lower q w) all n refl g i) i.roof in
    let e : 2 ^ places g.b (g.ys ++ (r.last ∷ r.unread)) ≡ unit w.until * 2 ^ r.look * 2 ^ places r.last
    r.unread
    = ap (λ (y : ℕ). 2 ^ y) (places-split g.b g.ys r.last r.unread) ∙ pow-add 2 _
    (places r.last r.unread)
    ∙ ap (λ (y : ℕ). y * 2 ^ places r.last r.unread) (place-unit _ w.until r.look g.place) in
    unexpected-num w.held (unit w.until) w.interval.low q (2 ^ r.look) r.x _ _
    (2 ^ places r.last r.unread) (value r.unread) (unit-pos w.until) (pow_pos _)
    (value-split (g.b ∷ g.ys) r.last r.unread)
    (subst (λ (y : ℕ). value (g.b ∷ (g.ys ++ (r.last ∷ r.unread))) * unit w.until <
    (w.held * unit w.until + w.interval.low + q) * y) e k)
    g.number

-- x is below the width (`lower w.interval.width w` is w)
x-bound : (r : Sight) (w : Registers) (all : List ℕ) (n : ℕ) → Sees r w all → Ahead w all n
    → r.x < w.interval.width * 2 ^ r.look
x-bound r w all n g i = refuses w.interval.width r w all n g i

-- ---- the steps, side by side
pub sees-upper : (q : ℕ) (r : Sight) (w : Registers) (all : List ℕ) → q * 2 ^ r.look ≤ r.x → Sees r w all
    → Sees (above q r) (upper q w) all
sees-upper q r w all h g =
    record {
      b = g.b;
      ys = g.ys;
      joined = g.joined;
      wide = ap (λ (k : ℕ). k - q) g.wide;
      place = g.place;
      number = num (w.held * unit w.until) w.interval.low (2 ^ r.look) r.x h ∙ g.number;
    }
  where
    num : (y c l x : ℕ) → q * l ≤ x → x - q * l + (y + (c + q)) * l ≡ x + (y + c) * l
    num y c l x h = omega arith

pub sees-lower : (q : ℕ) (r : Sight) (w : Registers) (all : List ℕ) → Sees r w all → Sees (under q r) (lower q w) all
sees-lower q r w all g = record {
  b = g.b;
  ys = g.ys;
  joined = g.joined;
  wide = refl;
  place = g.place;
  number = g.number;
}

-- one byte more is read: there is one, since the bytes cover the shift that comes
sees_more : (r : Sight) (w : Registers) (all : List ℕ) (d : ℕ) (us : List ℕ) → r.unread ≡ d ∷ us → Sees r w all
    → Sees (record {
      width = r.width;
      x = r.x * 2 ^ bits r.last + d;
      look = r.look + bits r.last;
      last = d;
      unread = us;
    }) w all
sees_more r w all d us e g =
    record {
      b = g.b;
      ys = g.ys ++ (r.last ∷ []);
      joined = g.joined ∙ ap (λ (l : List ℕ). w.settled ++ (g.b ∷ l)) (ap (λ (l : List ℕ). g.ys ++ (r.last ∷ l)) e
          ∙ sym (append_assoc g.ys (r.last ∷ []) (d ∷ us)));
      wide = g.wide;
      place = rw (append_assoc g.ys (r.last ∷ []) (d ∷ []), places-snoc g.b g.ys r.last d)
          (omega (arith, g.place));
      number =
          rw (
            append_assoc g.ys (r.last ∷ []) (d ∷ []),
            value-snoc (g.b ∷ g.ys) r.last d,
            ← g.number,
            pow-add
                2 r.look (bits r.last),
          )
          (num r.x (w.held * unit w.until + w.interval.low) (2 ^ r.look) (2 ^ bits r.last) d);
    }
  where
    num : (x y l k d : ℕ) → x * k + d + y * (l * k) ≡ (x + y * l) * k + d
    num x y l k d = omega arith

sees-nearer : (r : Sight) (w : Registers) (all : List ℕ) → Rest w → 1 ≤ r.look → Sees r w all
    → Sees (nearer r) (double w) all
sees-nearer r w all f h g =
    record {
      b = g.b;
      ys = g.ys;
      joined = g.joined;
      wide = ap (λ (k : ℕ). 2 * k) g.wide;
      place = omega (arith, g.place, f.wait, f.fit.few);
      number = num w.held (unit w.until) (unit (w.until - 1)) w.interval.low (2 ^ r.look)
          (2 ^ (r.look - 1)) r.x
          (unit-pred w.until f.wait (omega (arith, f.fit.few))) (ap (λ (k : ℕ). 2 ^ k) (step r.look h)
          ∙ pow-succ' 2 (r.look - 1)) ∙ g.number;
    }
  where
    step : (l : ℕ) → 1 ≤ l → l ≡ suc (l - 1)
    step l h = omega arith

    num : (h u v c l m x : ℕ) → v ≡ 2 * u → l ≡ 2 * m → x + (h * v + 2 * c) * m ≡ x + (h * u + c) * l
    num h u v c l m x e k = rw (e, k) (omega arith)

-- at a byte that is due, the reader has read past it
module _ (w : Registers) (r : Sight) (all : List ℕ) (n : ℕ) (z : w.until ≡ 0) (by : Byte w)
    (i : Ahead (byte w) all n) where
  byte-num : (B h c h' c' l x X p q : ℕ) → h * 16777216 + c ≡ B * 16777216 + (h' * p + c') → q ≡ 16777216 * l
      → x + (h * 16777216 + c) * l ≡ B * q + X
      → x + (h' * p + c') * l ≡ X
  byte-num B h c h' c' l x X p q e k f =
      let f' : x + (B * 16777216 + (h' * p + c')) * l ≡ B * (16777216 * l) + X =
      subst₂ (λ (y q : ℕ). x + y * l ≡ B * q + X) e k f in
      omega arith

  place-head : (b y : ℕ) (ys : List ℕ) (l : ℕ) → bits b ≡ (byte w).until → places b (y ∷ ys) ≡ 24 - w.until + l
      → places y ys ≡ 24 - (byte w).until + l
  unfolding places
  place-head b y ys l e p = omega (arith, bits-few b)

  number_of : (y : ℕ) (ys : List ℕ) → places (carried w.held w.interval.low) (y ∷ ys) ≡ 24 - w.until + r.look
      → r.x + (w.held * unit w.until + w.interval.low) * 2 ^ r.look ≡ value
      (carried w.held w.interval.low ∷ y ∷ ys)
      → r.x + ((byte w).held * unit (byte w).until + (byte w).interval.low) * 2 ^ r.look ≡ value (y ∷ ys)
  unfolding value
  number_of y ys p f =
      byte-num (carried w.held w.interval.low) w.held w.interval.low (byte w).held
      (byte w).interval.low (2 ^ r.look) r.x (value (y ∷ ys)) (unit (byte w).until) _ by.whole
      (place-unit _ w.until r.look p ∙ ap (λ (u : ℕ). u * 2 ^ r.look) (ap unit z ∙ unit-zero))
      (subst (λ (u : ℕ). r.x + (w.held * u + w.interval.low) * 2 ^ r.look ≡ value
      (carried w.held w.interval.low ∷ y ∷ ys)) (ap unit z ∙ unit-zero) f)

  past : (b : ℕ) (ys : List ℕ) → all ≡ w.settled ++ (b ∷ (ys ++ (r.last ∷ r.unread))) → r.width ≡ w.interval.width
      → places b (ys ++ (r.last ∷ [])) ≡ 24 - w.until + r.look
      → r.x + (w.held * unit w.until + w.interval.low) * 2 ^ r.look ≡ value (b ∷ (ys ++ (r.last ∷ [])))
      → Sees r (byte w) all
  past b [] j a p f = absurd (short b r.last p)
    where
      short : (b l : ℕ) → places b (l ∷ []) ≡ 24 - w.until + r.look → ⊥
      short b l p = omega (arith, bits-few b, places-one b l)
  past b (y ∷ ys) j a p f =
      let same : carried w.held w.interval.low ∷ i.b ∷ i.bs ≡ b ∷ y ∷ (ys ++ (r.last ∷ r.unread))
      = cancel w.settled _ _ (sym (append_assoc w.settled (carried w.held w.interval.low ∷ [])
      (i.b ∷ i.bs)) ∙ ap (λ (l : List ℕ). l ++ (i.b ∷ i.bs)) (sym (byte-settled w)) ∙ sym i.joined ∙ j) in
      let eb : b ≡ carried w.held w.interval.low = ap (λ (l : List ℕ). get_or l 0 0) (sym same) in
      record {
        b = y;
        ys = ys;
        joined = j ∙ ap (λ (k : ℕ). w.settled ++ (k ∷ y ∷ (ys ++ (r.last ∷ r.unread)))) eb
            ∙ sym (append_assoc w.settled (carried w.held w.interval.low ∷ [])
            (y ∷ (ys ++ (r.last ∷ r.unread)))) ∙ ap (λ (l : List ℕ). l ++ (y ∷ (ys ++ (r.last ∷ r.unread))))
            (sym (byte-settled w));
        wide = a ∙ sym (byte_width w);
        place = place-head b y (ys ++ (r.last ∷ [])) r.look (ap bits eb ∙ sym (byte-until w)) p;
        number = number_of y (ys ++ (r.last ∷ []))
            (subst (λ (k : ℕ). places k (y ∷ (ys ++ (r.last ∷ []))) ≡ 24 - w.until + r.look) eb p)
            (subst (λ (k : ℕ). r.x + (w.held * unit w.until + w.interval.low) * 2 ^ r.look ≡ value
            (k ∷ y ∷ (ys ++ (r.last ∷ [])))) eb f);
      }

sees-byte : (w : Registers) (r : Sight) (all : List ℕ) (n : ℕ) → Fit w → w.until ≡ 0 → Ahead (byte w) all n
    → Sees r w all → Sees r (byte w) all
sees-byte w r all n f z i g =
    past w r all n z (made w f z) i g.b g.ys g.joined g.wide g.place g.number

sees-due : (w : Registers) (r : Sight) (all : List ℕ) (S : ℕ) → Fit w → Going (due w) all S → Sees r w all
    → Sees r (due w) all
unfolding due
sees-due w r all S f =
    by_cond (λ (v : Registers). Going v all S → Sees r w all → Sees r v all) (eqb w.until 0) (byte w) w
    (λ t i g. sees-byte w r all i.n f (eqb→eq w.until 0 t) i.ahead g) (λ t i g. g)

-- where no bit is left in sight and a shift comes, there is a byte to read
record Supplied (r : Sight) (w : Registers) (all : List ℕ) : Type 0 where
  sees : Sees r w all
  look : 1 ≤ r.look

not_done : (r : Sight) (w : Registers) (all : List ℕ) (S : ℕ) → Rest w → Going (double w) all S → Sees r w all
    → r.look ≡ 0 → r.unread ≡ [] → ⊥
not_done r w all S f i g z e =
    let c : i.n ≤ places g.b (g.ys ++ (r.last ∷ []))
    = subst₂ (λ (b : ℕ) (l : List ℕ). i.n ≤ places b l) (meet-b r w (double w) all i.n refl g i.ahead)
    (meet-bs r w (double w) all i.n refl g i.ahead ∙ ap (λ (l : List ℕ). g.ys ++ (r.last ∷ l)) e)
    (ahead-covers (double w) all i.n i.ahead) in
    omega (arith, g.place, i.togo, i.soon, f.wait, f.fit.few)

fits : (a l x : ℕ) → a ≤ 8191 → l ≤ 8 → x < a * 2 ^ l → x % 2 ^ 32 ≡ x
fits a l x h k p =
    let m : a * 2 ^ l ≤ 8191 * 2 ^ 8 = mul-le-mul h (pow_mono k) in
    mod-eq_of_lt (omega arith)

sees-supplied : (r : Sight) (w : Registers) (all : List ℕ) (S : ℕ) → Rest w → Going (double w) all S → Sees r w all
    → Supplied (supplied r) w all
unfolding supplied
sees-supplied r w all S f i g =
    by_cond (λ (v : Sight). Supplied v w all) (eqb r.look 0) (more r) r
    (λ t. go r.unread refl (eqb→eq r.look 0 t))
    (λ t. record { sees = g; look = pos_of_ne-zero (neqb→ne r.look 0 t) })
  where
    sight : ℕ → ℕ → List ℕ → Sight
    sight x d us = record { width = r.width; x = x; look = r.look + bits r.last; last = d; unread = us }

    go : (l : List ℕ) → r.unread ≡ l → r.look ≡ 0 → Supplied (more r) w all
    go [] e z = absurd (not_done r w all S f i g z e)
    go (d ∷ us) e z =
        let x : ℕ = r.x * 2 ^ bits r.last + d in
        let s : Sees (sight x d us) w all = sees_more r w all d us e g in
        let b : x < w.interval.width * 2 ^ (r.look + bits r.last) = x-bound (sight x d us) w all i.n s
        (ahead-double w all i.n f i.ahead) in
        let k : x % 2 ^ 32 ≡ x = fits w.interval.width (r.look + bits r.last) x f.fit.narrow
        (omega (arith, bits-few r.last)) b in
        record {
          sees = subst (λ (l : List ℕ). Sees (sight ((r.x * 2 ^ bits r.last + get_or l 0 0) % 2 ^ 32) (get_or l 0 0)
              (drop 1 l)) w all)
              (sym e) (subst (λ (y : ℕ). Sees (sight y d us) w all) (sym k) s);
          look = omega (arith, bits-few r.last);
        }

sees-shift : (r : Sight) (w : Registers) (all : List ℕ) (S : ℕ) → Rest w → T (ltb w.interval.width 4096)
    → Going (due (double w)) all S → Sees r w all
    → Sees (nearer (supplied r)) (due (double w)) all
sees-shift r w all S f t i g =
    let k : Fit (double w) = fit-double w f (ltb→lt w.interval.width 4096 t) in
    let s : Supplied (supplied r) w all = sees-supplied r w all S f (going-due (double w) all S k i) g in
    sees-due (double w) (nearer (supplied r)) all S k i (sees-nearer (supplied r) w all f s.look s.sees)

pub sees-shifts : (n : ℕ) (r : Sight) (w : Registers) (all : List ℕ) (S : ℕ) → Rest w → Sees r w all
    → Going (shifts n w) all S → Sees (seek n r) (shifts n w) all
unfolding shifts seek
sees-shifts zero r w all S f g = λ i. g
sees-shifts (suc n) r w all S f g =
    subst (λ (k : ℕ). Going (shifts (suc n) w) all S → Sees (cond (ltb k 4096) (seek n (nearer (supplied r))) r)
    (shifts (suc n) w) all) (sym g.wide)
    (by-cond₂ (λ (v : Registers) (q : Sight). Going v all S → Sees q v all) (ltb w.interval.width 4096)
    (shifts n (due (double w))) w (seek n (nearer (supplied r))) r
    (λ t i.
    sees-shifts n (nearer (supplied r)) (due (double w)) all S (rest-shift w f t)
    (sees-shift r w all S f t (going-shifts n (due (double w)) all S (rest-shift w f t) i) g) i)
    (λ t i. g))

-- ---- the whole
pub decide_true : (q : ℕ) (r : Sight) → q * 2 ^ r.look ≤ r.x → decide q r ≡ true
unfolding decide
decide_true q r h = is_true _ (le→nltb r.x (q * 2 ^ r.look) h)

pub decide-false : (q : ℕ) (r : Sight) → r.x < q * 2 ^ r.look → decide q r ≡ false
unfolding decide
decide-false q r h = ap not (is_true (ltb r.x (q * 2 ^ r.look)) (lt→ltb r.x (q * 2 ^ r.look) h))

zero_bits : bits 0 ≡ 8
unfolding bits
zero_bits = refl

pub sees-start : (code all : List ℕ) → all ≡ 0 ∷ code → 12 ≤ places 0 code → Sees (opened code) start all
unfolding places value
sees-start [] all e h = absurd (go h)
  where
    go : 12 ≤ 0 → ⊥
    go h = omega arith
sees-start (d ∷ []) all e h = absurd (go h)
  where
    go : 12 ≤ bits 0 + 0 → ⊥
    go h = omega (arith, bits-few 0)
sees-start (d ∷ k ∷ us) all e h =
    record {
      b = 0;
      ys = d ∷ [];
      joined = e;
      wide = refl;
      place = omega (arith, zero_bits, bits-few d);
      number = rw (add-zero (bits d)) (omega arith);
    }
