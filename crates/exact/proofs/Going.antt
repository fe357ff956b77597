-- From the end of a written band back to its start: at every state on the way the rest of the code is as Ahead says.
-- Assumes nothing.
use mathlib.Core.Path.{◌≡◌, refl, sym, subst}
use Prim.Native.Nat.{ℕ, zero, suc, ◌+◌, ◌-◌, ◌≤◌}
use native.Mathlib.Nat.{add-sub_cancel}
use native.Mathlib.Omega.{arith}
use mathlib.Core.List.{List, [], ◌∷◌}
use lib.Dec.{T, ltb, eqb, ltb→lt, eqb→eq}
use Rattle.ground.proofs.Tests.{by_cond}
use Rattle.interval.specs.Interval.{Decision}
use Rattle.octets.specs.Octets.{Registers, byte, due, double, shifts, part, pel, run, finish, ended}
use Rattle.octets.proofs.Fit.{upper, lower, by_part, byte-few, Sized, AllSized, fit-double, rest-shift, rest_part}
use Rattle.octets.proofs.Fit.{ready-pel}
use Rattle.octets.specs.Fit.{Fit, Rest, Ready}
use Rattle.exact.proofs.End.{tail-start}
use Rattle.exact.proofs.Ahead.{Ahead, ahead-double, ahead_upper, ahead_lower, ahead-byte, ahead-cover}

-- n bits are to come: those in c, and the shifts that are left of S
pub record Going (w : Registers) (all : List ℕ) (S : ℕ) : Type 0 where
  pub n : ℕ
  pub togo : n + w.interval.count ≡ 24 - w.until + S
  pub soon : w.interval.count ≤ S
  pub ahead : Ahead w all n

byte-count : (w : Registers) → (byte w).interval.count ≡ w.interval.count
unfolding byte
byte-count w = refl

going-byte : (w : Registers) (all : List ℕ) (S : ℕ) → Fit w → w.until ≡ 0 → Going (byte w) all S → Going w all S
going-byte w all S f z g =
    let e : (byte w).interval.count ≡ w.interval.count = byte-count w in
    record {
      n = g.n + (byte w).until;
      togo = omega (arith, g.togo, byte-few w);
      soon = omega (arith, g.soon);
      ahead = ahead-byte w all (g.n + (byte w).until) f z (omega (arith, byte-few w))
          (subst (λ (x : ℕ). Ahead (byte w) all x) (sym (add-sub_cancel g.n (byte w).until)) g.ahead);
    }

pub going-due : (w : Registers) (all : List ℕ) (S : ℕ) → Fit w → Going (due w) all S → Going w all S
unfolding due
going-due w all S f =
    by_cond (λ (v : Registers). Going v all S → Going w all S) (eqb w.until 0) (byte w) w
    (λ t. going-byte w all S f (eqb→eq w.until 0 t)) (λ t g. g)

going-double : (w : Registers) (all : List ℕ) (S : ℕ) → Rest w → Going (double w) all S → Going w all S
going-double w all S r g =
    record {
      n = g.n;
      togo = omega (arith, g.togo, r.wait, r.fit.few);
      soon = omega (arith, g.soon);
      ahead = ahead-double w all g.n r g.ahead;
    }

going-shift : (w : Registers) (all : List ℕ) (S : ℕ) → Rest w → T (ltb w.interval.width 4096)
    → Going (due (double w)) all S → Going w all S
going-shift w all S r t g =
    going-double w all S r (going-due (double w) all S (fit-double w r (ltb→lt w.interval.width 4096 t)) g)

pub going-shifts : (j : ℕ) (w : Registers) (all : List ℕ) (S : ℕ) → Rest w → Going (shifts j w) all S → Going w all S
unfolding shifts
going-shifts zero w all S r = λ g. g
going-shifts (suc j) w all S r =
    by_cond (λ (v : Registers). Going v all S → Going w all S) (ltb w.interval.width 4096)
    (shifts j (due (double w))) w
    (λ t g. going-shift w all S r t (going-shifts j (due (double w)) all S (rest-shift w r t) g)) (λ t g. g)

going-upper : (q : ℕ) (w : Registers) (all : List ℕ) (S : ℕ) → q ≤ w.interval.width → Going (upper q w) all S
    → Going w all S
going-upper q w all S h g =
    record { n = g.n; togo = g.togo; soon = g.soon; ahead = ahead_upper q w all g.n h g.ahead }

going-lower : (q : ℕ) (w : Registers) (all : List ℕ) (S : ℕ) → q ≤ w.interval.width → Going (lower q w) all S
    → Going w all S
going-lower q w all S h g =
    record { n = g.n; togo = g.togo; soon = g.soon; ahead = ahead_lower q w all g.n h g.ahead }

pub going-part : (d : Decision) (w : Registers) (all : List ℕ) (S : ℕ) → Ready w → Sized d → Going (part d w) all S
    → Going w all S
going-part d w all S r z =
    let h : d.q ≤ w.interval.width = omega (arith, z.small, r.wide) in
    by_part (λ (v : Registers). Going v all S → Going w all S) d w
    (λ t. going-upper d.q w all S h) (λ t. going-lower d.q w all S h)

pub going-run : (ds : List Decision) (w : Registers) (all : List ℕ) (S : ℕ) → AllSized ds → Ready w
    → Going (run ds w) all S → Going w all S
unfolding run
going-run [] w all S z r g = g
going-run (d ∷ ds) w all S z r g =
    going-part d w all S r z.0
    (going-shifts 12 (part d w) all S (rest_part d w r z.0) (going-run ds (pel d w) all S z.1
    (ready-pel d w r z.0) g))

pub going_end : (w : Registers) → Rest w → Going w (ended (finish w)) w.interval.count
unfolding finish
going_end w r = record {
  n = 24 - w.until;
  togo = refl;
  soon = omega arith;
  ahead = ahead-cover 4 (24 - w.until) w r (tail-start w r) (omega arith);
}
