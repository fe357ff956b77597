-- What the reader's code sees is the definition's Sight, byte by byte and pel by pel. Assumes nothing.
use mathlib.Core.Path.{◌≡◌, refl, sym, ap, ◌∙◌, subst}
use mathlib.Core.Logic.{◌≢◌}
use Prim.Native.Nat.{ℕ, zero, suc, ◌+◌, ◌-◌, ◌*◌, ◌%◌, ◌^◌, ◌≤◌, ◌<◌}
use native.Mathlib.Nat.{mul-one, sub-zero, mul-le-mul}
use native.Mathlib.Omega.{arith}
use mathlib.Core.Bool.{Bool, true, false, cond}
use mathlib.Core.List.{List, []}
use lib.ListN.{drop, get_or, length}
use lib.Seq.{get_or-drop, drop-drop}
use lib.Pow.{pow_mono}
use lib.Dec.{ltb, eqb}
use Rattle.ground.proofs.Tests.{by-cond₂, if-eq, if-ne}
use Rattle.interval.specs.declared.Interval.{Interval}
use Rattle.interval.specs.Interval.{decision, part_of, doubled, grown, doublings}
use Rattle.octets.specs.Octets.{Registers, bits, shifts, due, double, part, pel}
use Rattle.octets.proofs.Fit.{bits-few, due-width}
use Rattle.exact.specs.Sight.{Sight, opened, more, nearer, supplied, seek, decide, taken}
use Rattle.coder.specs.Reading.{pel_of}
use Rattle.coder.proofs.Reading.{pel_of-bit}
use Rattle.estimate.specs.Estimate.{row_of}
use Rattle.estimate.proofs.LawfulEntries.{row_sized}
use Rattle.octets.specs.Lift.{lift}
use Rattle.top.specs.declared.Top.{Top}
use Rattle.top.specs.Top.{bottom_of}
use Rattle.row.specs.declared.Pel.{Pel}
use Rattle.row.specs.TopEngine.{TopPelled}
use Rattle.sight.specs.declared.View.{View}
use Rattle.sight.specs.declared.Told.{Told}
use Rattle.sight.specs.Views.{seeks, sight_of, ReadPel}
use Rattle.ground.proofs.Powers.{double-first}

supplied-width : (r : Sight) → (supplied r).width ≡ r.width
unfolding supplied
supplied-width r = Rattle.ground.proofs.Tests.by_cond (λ (v : Sight). v.width ≡ r.width) (eqb r.look 0) (more r) r
    (λ t. refl) (λ t. refl)

seek-seeks : (n : ℕ) (r : Sight) → seek n r ≡ seeks (doublings n r.width) r
unfolding seek doublings seeks
seek-seeks zero r = refl
seek-seeks (suc n) r =
    by-cond₂ (λ (v : Sight) (k : ℕ). v ≡ seeks k r) (ltb r.width 4096) (seek n (nearer (supplied r))) r
    (suc (doublings n (2 * r.width))) 0
    (λ t. seek-seeks n (nearer (supplied r)) ∙ ap (λ (a : ℕ). seeks (doublings n (2 * a)) (nearer (supplied r)))
    (supplied-width r)) (λ t. refl)

supplied-some : (r : Sight) → r.look ≢ 0 → supplied r ≡ r
unfolding supplied
supplied-some r h = if-ne r.look 0 (more r) r h

supplied-none : (r : Sight) → r.look ≡ 0 → supplied r ≡ more r
unfolding supplied
supplied-none r h = if-eq r.look 0 (more r) r h

-- within what is in sight
pub seeks-few : (k : ℕ) (r : Sight) → k ≤ r.look
    → seeks k r ≡ record { width = r.width * 2 ^ k; x = r.x; look = r.look - k; last = r.last; unread = r.unread }
unfolding seeks
seeks-few zero r h =
    λ i. record {
      width = sym (mul-one r.width) i;
      x = r.x;
      look = sym (sub-zero r.look) i;
      last = r.last;
      unread = r.unread;
    }
seeks-few (suc k) r h =
    ap (λ (v : Sight). seeks k (nearer v)) (supplied-some r (λ e. omega arith)) ∙ seeks-few k (nearer r) (omega arith)
    ∙ (λ i. record {
      width = double-first r.width k i;
      x = r.x;
      look = less r.look i;
      last = r.last;
      unread = r.unread;
    })
  where
    less : (l : ℕ) → l - 1 - k ≡ l - suc k
    less l = omega arith

more-some : (r : Sight) → (more r).look ≢ 0
more-some r e = absurd (omega (arith, bits-few r.last))

-- a byte may be read at once, where the shifts will need it
pub seeks-more : (k l : ℕ) (r : Sight) → r.look ≡ l → l < k → seeks k r ≡ seeks k (more r)
unfolding seeks
seeks-more zero l r e h = absurd (omega arith)
seeks-more (suc k) zero r e h =
    ap (λ (v : Sight). seeks k (nearer v)) (supplied-none r e ∙ sym (supplied-some (more r) (more-some r)))
seeks-more (suc k) (suc l) r e h =
    ap (λ (v : Sight). seeks k (nearer v)) (supplied-some r (λ z. omega arith)) ∙ seeks-more k l (nearer r)
    (omega arith) (omega arith)
    ∙ ap (seeks k)
    (λ i. record {
      width = 2 * r.width;
      x = (r.x * 2 ^ bits r.last + get_or r.unread 0 0) % 2 ^ 32;
      look = swap r.look (bits r.last) e i;
      last = get_or r.unread 0 0;
      unread = drop 1 r.unread;
    })
    ∙ sym (ap (λ (v : Sight). seeks k (nearer v)) (supplied-some (more r) (more-some r)))
  where
    swap : (a b : ℕ) → a ≡ suc l → a - 1 + b ≡ a + b - 1
    swap a b e = omega arith

-- ---- the widths of writer and reader are one
shifts-width : (n : ℕ) (w : Registers) (i : Interval) → w.interval.width ≡ i.width → (shifts n w).interval.width
    ≡ (grown n i).width
unfolding shifts grown
shifts-width zero w i e = e
shifts-width (suc n) w i e =
    subst (λ (k : ℕ). (shifts (suc n) w).interval.width ≡ (cond (ltb k 4096) (grown n (doubled i)) i).width) e
    (by-cond₂ (λ (v : Registers) (j : Interval). v.interval.width ≡ j.width) (ltb w.interval.width 4096)
    (shifts n (due (double w))) w (grown n (doubled i)) i
    (λ t. shifts-width n (due (double w)) (doubled i) (due-width (double w) ∙ ap (λ (k : ℕ). 2 * k) e)) (λ t. e))

seek-width : (n : ℕ) (r : Sight) (i : Interval) → r.width ≡ i.width → (seek n r).width ≡ (grown n i).width
unfolding seek grown
seek-width zero r i e = e
seek-width (suc n) r i e =
    subst (λ (k : ℕ). (seek (suc n) r).width ≡ (cond (ltb k 4096) (grown n (doubled i)) i).width) e
    (by-cond₂ (λ (v : Sight) (j : Interval). v.width ≡ j.width) (ltb r.width 4096) (seek n (nearer (supplied r)))
    r (grown n (doubled i)) i
    (λ t. seek-width n (nearer (supplied r)) (doubled i) (ap (λ (k : ℕ). 2 * k) (supplied-width r ∙ e))) (λ t. e))

pub taken-width : (q : ℕ) (b : Bool) (r : Sight) (i : Interval) → r.width ≡ i.width → (taken q b r).width ≡ (part_of
    (decision q b) i).width
taken-width q true r i e = ap (λ (k : ℕ). k - q) e
taken-width q false r i e = refl

same_width : (q : ℕ) (b : Bool) (r : Sight) (w : Registers) → r.width ≡ w.interval.width
    → (seek 12 (taken q b r)).width ≡ (pel (decision q b) w).interval.width
same_width q b r w e =
    seek-width 12 (taken q b r) (part_of (decision q b) w.interval) (taken-width q b r w.interval e)
    ∙ sym (shifts-width 12 (part (decision q b) w) (part_of (decision q b) w.interval) refl)

-- ---- a byte read
pub power_small : (b n p : ℕ) → n ≡ bits b → p ≡ 2 ^ n → (7 ≤ n) × (n ≤ 8) × (p ≤ 256)
power_small b n p e f =
    let k : (7 ≤ bits b) × (bits b ≤ 8) = bits-few b in
    let l : n ≤ 8 = omega arith in
    let m : 2 ^ n ≤ 2 ^ 8 = pow_mono l in
    omega arith

pub product_small : (x p y m : ℕ) → x ≤ m → p ≤ 256 → y ≤ 255 → x * p + y ≤ m * 256 + 255
product_small x p y m h k l = omega (arith, mul-le-mul h k)

pub view-more : (v : View) (w byte at n p : ℕ) (code : List ℕ) → byte ≡ get_or (drop v.at code) 0 0
    → drop at code ≡ drop 1 (drop v.at code) → n ≡ bits v.last → p ≡ 2 ^ n
    → sight_of (record { x = (v.x * p + byte) % 4294967296; look = v.look + n; last = byte; at = at }) w code ≡ more
    (sight_of v w code)
view-more v w byte at n p code b d e f =
    λ i. record {
      width = w;
      x = (v.x * (f ∙ ap (λ (k : ℕ). 2 ^ k) e) i + b i) % 4294967296;
      look = v.look + e i;
      last = b i;
      unread = d i;
    }

pub view-start : (a b at at' n p : ℕ) (code : List ℕ) → a ≡ get_or (drop 0 code) 0 0
    → drop at code ≡ drop 1 (drop 0 code) → b ≡ get_or (drop at code) 0 0 → drop at' code ≡ drop 1 (drop at code)
    → n ≡ bits a → p ≡ 2 ^ n → sight_of (record { x = a * p + b; look = n - 4; last = b; at = at' }) 4096 code
    ≡ opened code
view-start a b at at' n p code ea da eb db en ep =
    let k : n ≡ bits (get_or code 0 0) = en ∙ ap bits ea in
    let m : b ≡ get_or code 1 0 = eb ∙ ap (λ (l : List ℕ). get_or l 0 0) da ∙ get_or-drop 1 code 0 0 in
    λ i. record {
      width = 4096;
      x = ea i * (ep ∙ ap (λ (y : ℕ). 2 ^ y) k) i + m i;
      look = k i - 4;
      last = m i;
      unread = (db ∙ ap (λ (l : List ℕ). drop 1 l) da ∙ drop-drop 1 1 code) i;
    }

pub told-bit : (c : Top) (v : View) (code : List ℕ) (e : ℕ) (t : Told) → ReadPel c v code e t → t.p ≤ 1
told-bit c v code e t k = subst (λ (z : ℕ). z ≤ 1) (sym k.told) (pel_of-bit (e % 2) t.expected (omega arith))

-- the lower part of what is in sight
pub part_small : (e l q p : ℕ) → q ≡ row_of e → p ≡ 2 ^ l → l ≤ 7 → q * p ≤ 352384
part_small e l q p a b h =
    let m : 2 ^ l ≤ 2 ^ 7 = pow_mono h in
    omega (arith, mul-le-mul {n₁ = q} {m₁ = p} {n₂ = 2753} {m₂ = 128} (omega (arith, (row_sized e).small)) (omega arith))

-- from what the parts of the code say
module _ (c : Top) (v : View) (code : List ℕ) (e : ℕ) (b : Bool) (o : ℕ) (u : Pel Top) (v₁ v₂ : View) (k : ℕ) where
  abbrev seen : Sight
  seen = sight_of v c.width code

  abbrev part' : Sight
  part' = taken (row_of e) b seen

  pub told_moved : decide (row_of e) seen ≡ b → o ≡ pel_of (e % 2) b → TopPelled c e b u
      → part' ≡ sight_of v₁ part'.width code
      → k ≡ doublings 12 (part_of (decision (row_of e) b) (bottom_of c).interval).width
      → ((w : ℕ) → sight_of v₂ (w * 2 ^ k) code ≡ seeks k (sight_of v₁ w code)) → v₂.at ≤ length code → v₂.look ≤ 7
      → v₂.x < 2 ^ 32
      → ReadPel c v code e (record { expected = b; p = o; view = v₂; pel = u })
  told_moved d f p t n a x y z =
      let m : doublings 12 part'.width ≡ k
      = ap (doublings 12) (taken-width (row_of e) b seen (bottom_of c).interval refl)
      ∙ sym n in
      let s : seek 12 part' ≡ sight_of v₂ (part'.width * 2 ^ k) code
      = seek-seeks 12 part' ∙ ap (λ (j : ℕ). seeks j part') m ∙ ap (seeks k) t ∙ sym (a part'.width) in
      let w : part'.width * 2 ^ k ≡ u.coder.width
      = ap (λ (r : Sight). r.width) (sym s) ∙ same_width (row_of e) b seen (lift (bottom_of c) []) refl
      ∙ ap (λ (r : Registers). r.interval.width) p.puts.0 in
      record {
        asked = sym d;
        told = f;
        pelled = p;
        sight = sym (subst (λ (j : ℕ). seek 12 part' ≡ sight_of v₂ j code) w s);
        within = x;
        near = y;
        small = z;
      }
