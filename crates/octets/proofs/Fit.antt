-- Every state that a band can come to stays within its bounds, and what a byte that is due does to the numbers. Assumes
-- nothing.
use mathlib.Core.Path.{◌≡◌, refl, sym, ap, ◌∙◌, subst}
use mathlib.Core.Logic.{◌≢◌, ◌⊎◌, inl, inr}
use Prim.Native.Nat.{ℕ, zero, suc, ◌+◌, ◌*◌, ◌/◌, ◌%◌, ◌^◌, ◌≤◌, ◌<◌}
use native.Mathlib.Omega.{arith}
use mathlib.Core.Bool.{not}
use mathlib.Core.List.{List, [], ◌∷◌}
use lib.Dec.{T, ltb, eqb, ltb→lt, nltb→le, eqb→eq}
use native.Mathlib.Nat.{pos_of_ne-zero, pow-succ'}
use Rattle.ground.proofs.Tests.{by_cond, same?, if-eq, if-ne, neqb→ne}
use Rattle.octets.specs.Unit.{unit}
use Rattle.octets.proofs.Unit.{unit-scale, unit-pred, unit-zero, unit-eight, unit-seven}
use Rattle.interval.specs.declared.Interval.{Interval}
use Rattle.interval.specs.Interval.{Decision, upper_part, lower_part}
use Rattle.octets.specs.Octets.{Registers, start, bits, carried, left, byte, due, double, shifts, at, part, pel}
use Rattle.octets.specs.Octets.{run}
use Rattle.octets.specs.Fit.{Fit, Rest, Ready}

-- the two parts, with the bytes as they are; what holds of both holds of a pel's
abbrev pub upper : ℕ → Registers → Registers
upper q w = at (upper_part q w.interval) w

abbrev pub lower : ℕ → Registers → Registers
lower q w = at (lower_part q w.interval) w

pub by_part : (P : Registers → Type 0) (d : Decision) (w : Registers) → (T d.expected → P (upper d.q w))
    → (T (not d.expected) → P (lower d.q w)) → P (part d w)
by_part P d w f g = by_cond (λ (i : Interval). P (at i w)) d.expected (upper_part d.q w.interval)
    (lower_part d.q w.interval) f g

-- a byte made of h and c: b is settled, h' and c' stand in the registers, u is the unit then
pub record Made (h c a b u h' c' : ℕ) : Type 0 where
  pub whole : h * 16777216 + c ≡ b * 16777216 + (h' * u + c')
  pub least : h ≤ b
  pub most : b ≤ suc h
  pub top : b ≤ 255
  pub full : h ≡ 255 → b ≡ 255
  pub octet : h' ≤ 255
  pub part : c' < u
  pub under : 8 * (c' + a) ≤ 9 * u
  pub stuff : b ≡ 255 → h' * u + c' + a ≤ 144 * u

pub bits-ff : (b : ℕ) → b ≡ 255 → bits b ≡ 7
unfolding bits
bits-ff b e = if-eq b 255 7 8 e

pub bits-else : (b : ℕ) → b ≢ 255 → bits b ≡ 8
unfolding bits
bits-else b e = if-ne b 255 7 8 e

pub bits-few : (b : ℕ) → (7 ≤ bits b) × (bits b ≤ 8)
bits-few b = go (same? b 255)
  where
    go : (b ≡ 255) ⊎ (b ≢ 255) → (7 ≤ bits b) × (bits b ≤ 8)
    go (inl e) = omega (arith, bits-ff b e)
    go (inr e) = omega (arith, bits-else b e)

pub byte-until : (w : Registers) → (byte w).until ≡ bits (carried w.held w.interval.low)
unfolding byte
byte-until w = refl

pub byte-few : (w : Registers) → (7 ≤ (byte w).until) × ((byte w).until ≤ 8)
byte-few w = rw (byte-until w) (bits-few (carried w.held w.interval.low))

-- a unit of the byte that went out is so many of the byte that is then held
pub byte-scale : (w : Registers) → 2 ^ (byte w).until * unit (byte w).until ≡ 16777216
byte-scale w = unit-scale (byte w).until (omega (arith, byte-few w))

pub carried-ff : (h c : ℕ) → h ≡ 255 → carried h c ≡ h
unfolding carried
carried-ff h c e = if-eq h 255 h (h + c / 2 ^ 24) e

pub carried-else : (h c : ℕ) → h ≢ 255 → carried h c ≡ h + c / 16777216
unfolding carried
carried-else h c e = if-ne h 255 h (h + c / 2 ^ 24) e

pub left-ff : (h c : ℕ) → h ≡ 255 → left h c ≡ c
unfolding left
left-ff h c e = if-eq h 255 c (c % 2 ^ 24) e

pub left-else : (h c : ℕ) → h ≢ 255 → left h c ≡ c % 16777216
unfolding left
left-else h c e = if-ne h 255 c (c % 2 ^ 24) e

made-8 : (h c a b r : ℕ) → h ≤ 255 → 1 ≤ a → a ≤ 8191 → 8 * (c + a) ≤ 9 * 16777216
    → h ≢ 255 → b ≡ h + c / 16777216 → r ≡ c % 16777216 → b ≢ 255 → Made h c a b 65536 (r / 65536) (r % 65536)
made-8 h c a b r h1 h2 h3 h4 h5 h6 h7 h8 = record {
  whole = omega arith;
  least = omega arith;
  most = omega arith;
  top = omega arith;
  full = λ e. absurd (h5 e);
  octet = omega arith;
  part = omega arith;
  under = omega arith;
  stuff = λ e. absurd (h8 e);
}

made-7c : (h c a b r : ℕ) → h ≤ 255 → 1 ≤ a → a ≤ 8191 → 8 * (c + a) ≤ 9 * 16777216
    → h ≢ 255 → b ≡ h + c / 16777216 → r ≡ c % 16777216 → b ≡ 255 → Made h c a b 131072 (r / 131072) (r % 131072)
made-7c h c a b r h1 h2 h3 h4 h5 h6 h7 h8 = record {
  whole = omega arith;
  least = omega arith;
  most = omega arith;
  top = omega arith;
  full = λ e. h8;
  octet = omega arith;
  part = omega arith;
  under = omega arith;
  stuff = λ e. omega arith;
}

made-7 : (h c a b r : ℕ) → 1 ≤ a → a ≤ 8191 → 8 * (c + a) ≤ 9 * 16777216
    → h ≡ 255 → b ≡ h → r ≡ c → Made h c a b 131072 (r / 131072) (r % 131072)
made-7 h c a b r h2 h3 h4 h5 h6 h7 = record {
  whole = omega arith;
  least = omega arith;
  most = omega arith;
  top = omega arith;
  full = λ e. omega arith;
  octet = omega arith;
  part = omega arith;
  under = omega arith;
  stuff = λ e. omega arith;
}

-- the byte that is due at w, as numbers
abbrev pub Byte : Registers → Type 0
Byte w = Made w.held w.interval.low w.interval.width (carried w.held w.interval.low)
    (unit (byte w).until) (byte w).held (byte w).interval.low

module _ (w : Registers) (f : Fit w) (z : w.until ≡ 0) where
  below : 8 * (w.interval.low + w.interval.width) ≤ 9 * 16777216
  below = omega (arith, f.under, ap unit z ∙ unit-zero)

  at_unit : (u : ℕ) → unit (bits (carried w.held w.interval.low)) ≡ u
      → Made w.held w.interval.low w.interval.width (carried w.held w.interval.low) u
      (left w.held w.interval.low / u) (left w.held w.interval.low % u) → Byte w
  unfolding byte unit
  at_unit u e m =
      subst (λ (x : ℕ). Made w.held w.interval.low w.interval.width (carried w.held w.interval.low) x
      (left w.held w.interval.low / x) (left w.held w.interval.low % x))
      (sym e) m

  plain : w.held ≢ 255 → (carried w.held w.interval.low ≡ 255) ⊎ (carried w.held w.interval.low ≢ 255)
      → Byte w
  plain n (inl e) =
      at_unit 131072 (ap unit (bits-ff _ e) ∙ unit-seven)
      (made-7c w.held w.interval.low w.interval.width _ _ f.octet f.some f.narrow below n
      (carried-else _ _ n) (left-else _ _ n) e)
  plain n (inr e) =
      at_unit 65536 (ap unit (bits-else _ e) ∙ unit-eight)
      (made-8 w.held w.interval.low w.interval.width _ _ f.octet f.some f.narrow below n
      (carried-else _ _ n) (left-else _ _ n) e)

  pick : (w.held ≡ 255) ⊎ (w.held ≢ 255) → Byte w
  pick (inl e) =
      at_unit 131072 (ap unit (bits-ff _ (carried-ff _ _ e ∙ e)) ∙ unit-seven)
      (made-7 w.held w.interval.low w.interval.width _ _ f.some f.narrow below e (carried-ff _ _ e)
      (left-ff _ _ e))
  pick (inr n) = plain n (same? (carried w.held w.interval.low) 255)

  pub made : Byte w
  made = pick (same? w.held 255)

-- ---- the bounds hold everywhere

pub fit-byte : (w : Registers) → Fit w → w.until ≡ 0 → Fit (byte w)
unfolding byte
fit-byte w f z =
    let m : Byte w = made w f z in
    record {
      few = omega (arith, bits-few (carried w.held w.interval.low));
      octet = m.octet;
      some = f.some;
      narrow = f.narrow;
      under = m.under;
    }

rest-due : (w : Registers) → Fit w → Rest (due w)
unfolding due
rest-due w f =
    by_cond Rest (eqb w.until 0) (byte w) w
    (λ t. record { fit = fit-byte w f (eqb→eq w.until 0 t); wait = omega (arith, byte-few w) })
    (λ t. record { fit = f; wait = pos_of_ne-zero (neqb→ne w.until 0 t) })

pub fit-double : (w : Registers) → Rest w → w.interval.width < 4096 → Fit (double w)
fit-double w r h =
    record {
      few = omega (arith, r.fit.few);
      octet = r.fit.octet;
      some = omega (arith, r.fit.some);
      narrow = omega arith;
      under = omega (arith, r.fit.under, unit-pred w.until r.wait (omega (arith, r.fit.few)));
    }

pub due-width : (w : Registers) → (due w).interval.width ≡ w.interval.width
unfolding due byte
due-width w = by_cond (λ (v : Registers). v.interval.width ≡ w.interval.width) (eqb w.until 0) (byte w) w
    (λ t. refl) (λ t. refl)

pub due-count : (w : Registers) → (due w).interval.count ≡ w.interval.count
unfolding due byte
due-count w = by_cond (λ (v : Registers). v.interval.count ≡ w.interval.count) (eqb w.until 0) (byte w) w
    (λ t. refl) (λ t. refl)

pub rest-shift : (w : Registers) → Rest w → T (ltb w.interval.width 4096) → Rest (due (double w))
rest-shift w r t = rest-due (double w) (fit-double w r (ltb→lt w.interval.width 4096 t))

ready-shifts : (n : ℕ) (w : Registers) → Rest w → 4096 ≤ w.interval.width * 2 ^ n → Ready (shifts n w)
unfolding shifts
ready-shifts zero w r h = record { rest = r; wide = omega (arith, h) }
ready-shifts (suc n) w r h =
    by_cond Ready (ltb w.interval.width 4096) (shifts n (due (double w))) w
    (λ t. ready-shifts n (due (double w)) (rest-shift w r t)
    (enough n w.interval.width (due (double w)).interval.width (due-width (double w)) h))
    (λ t. record { rest = r; wide = nltb→le w.interval.width 4096 t })
  where
    enough : (n a b : ℕ) → b ≡ 2 * a → 4096 ≤ a * 2 ^ suc n → 4096 ≤ b * 2 ^ n
    enough n a b e h =
        let k : a * 2 ^ suc n ≡ a * (2 * 2 ^ n) = ap (λ (x : ℕ). a * x) (pow-succ' 2 n) in
        let m : b * 2 ^ n ≡ 2 * a * 2 ^ n = ap (λ (x : ℕ). x * 2 ^ n) e in
        omega arith

-- the table's values
pub record Sized (d : Decision) : Type 0 where
  pub some : 1 ≤ d.q
  pub small : d.q ≤ 0xAC1

abbrev pub AllSized : List Decision → Type 0
AllSized [] = Unit {0}
AllSized (d ∷ ds) = Sized d × AllSized ds

rest-upper : (q : ℕ) (w : Registers) → Ready w → 1 ≤ q → q ≤ 0xAC1 → Rest (upper q w)
rest-upper q w r h k =
    record {
      fit = record {
        few = r.rest.fit.few;
        octet = r.rest.fit.octet;
        some = omega (arith, r.wide);
        narrow = omega (arith, r.rest.fit.narrow);
        under = omega (arith, r.rest.fit.under, r.wide);
      };
      wait = r.rest.wait;
    }

rest_lower : (q : ℕ) (w : Registers) → Ready w → 1 ≤ q → q ≤ 0xAC1 → Rest (lower q w)
rest_lower q w r h k =
    record {
      fit = record {
        few = r.rest.fit.few;
        octet = r.rest.fit.octet;
        some = h;
        narrow = omega arith;
        under = omega (arith, r.rest.fit.under, r.wide);
      };
      wait = r.rest.wait;
    }

pub rest_part : (d : Decision) (w : Registers) → Ready w → Sized d → Rest (part d w)
rest_part d w r z =
    by_part Rest d w
    (λ t. rest-upper d.q w r z.some z.small) (λ t. rest_lower d.q w r z.some z.small)

pub ready-pel : (d : Decision) (w : Registers) → Ready w → Sized d → Ready (pel d w)
ready-pel d w r z =
    let k : Rest (part d w) = rest_part d w r z in
    ready-shifts 12 (part d w) k (omega (arith, k.fit.some))

pub ready-run : (ds : List Decision) (w : Registers) → AllSized ds → Ready w → Ready (run ds w)
unfolding run
ready-run [] w z r = r
ready-run (d ∷ ds) w z r = ready-run ds (pel d w) z.1 (ready-pel d w r z.0)

pub ready-start : Ready start
unfolding unit
ready-start =
    record {
      rest = record {
        fit = record {
          few = omega arith;
          octet = omega arith;
          some = omega arith;
          narrow = omega arith;
          under = omega arith;
        };
        wait = omega arith;
      };
      wide = omega arith;
    }
