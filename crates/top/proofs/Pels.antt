-- One pel with the string at the top is the same pel with the string at the bottom. Assumes nothing.
use mathlib.Core.Path.{◌≡◌, sym, ap, ap₂, ◌∙◌, subst, subst₂}
use Prim.Native.Nat.{ℕ, ◌+◌, ◌-◌, ◌*◌, ◌^◌, ◌≤◌, ◌<◌}
use native.Mathlib.Nat.{mul_comm, mul-sub, mul-le-mul_right}
use native.Mathlib.Omega.{arith}
use mathlib.Core.Bool.{Bool}
use mathlib.Core.List.{List, []}
use Rattle.limits.specs.Limits.{max_shifts}
use Rattle.interval.specs.declared.Interval.{Interval}
use Rattle.interval.specs.Interval.{decision, lower_part, part_of, grown, doublings, coded}
use Rattle.interval.proofs.Growing.{jumped, Fits, part-fits}
use Rattle.octets.specs.declared.Coder.{Coder}
use Rattle.octets.specs.declared.Put.{Put}
use Rattle.octets.specs.Octets.{byte, pel}
use Rattle.octets.specs.Fit.{Ready}
use Rattle.octets.specs.Loops.{steps}
use Rattle.octets.specs.Lift.{lift, settled_of, there}
use Rattle.octets.proofs.Fit.{ready-pel}
use Rattle.octets.proofs.OnePel.{low_fits, pel-few, pel-bytes, split, left_over}
use Rattle.top.specs.declared.Top.{Top}
use Rattle.top.specs.Top.{bottom_of, within, waited}

-- ---- the part of an unexpected pel: the top comes down to the end of the lower part
pub lowered : (q : ℕ) (t : Top) → q ≤ t.width → t.width ≤ t.top
    → bottom_of
    (record { top = t.top - (t.width - q); width = q; count = t.count; until = t.until; held = t.held })
    ≡ within (lower_part q (bottom_of t).interval) t
lowered q t h k = λ i. record {
  interval = record { low = low i; width = q; count = t.count };
  until = t.until;
  held = t.held;
}
  where
    low : t.top - (t.width - q) - q ≡ t.top - t.width
    low = omega arith

-- ---- k doublings of the top and the width are k doublings of the lower end
pub raised : (k : ℕ) (t : Top) (top width : ℕ) → top ≡ t.top * 2 ^ k → width ≡ t.width * 2 ^ k
    → bottom_of (record { top = top; width = width; count = t.count + k; until = t.until; held = t.held })
    ≡ within (jumped k (bottom_of t).interval) t
raised k t top width d e = λ i. record {
  interval = record { low = low i; width = e i; count = t.count + k };
  until = t.until;
  held = t.held;
}
  where
    scaled : (x a p : ℕ) → x * p - a * p ≡ (x - a) * p
    scaled x a p = rw (mul_comm x p, mul_comm a p, mul_comm (x - a) p) (sym (mul-sub p x a))

    low : top - width ≡ (t.top - t.width) * 2 ^ k
    low = ap₂ (λ (x y : ℕ). x - y) d e ∙ scaled t.top t.width (2 ^ k)

pub raised-holds : (k : ℕ) (t : Top) (top width : ℕ) → top ≡ t.top * 2 ^ k → width ≡ t.width * 2 ^ k
    → t.width ≤ t.top → width ≤ top
raised-holds k t top width d e h = rw (d, e) (mul-le-mul_right (2 ^ k) h)

-- the part, and then its doublings
pub next-coded : (t p n : Top) (i : Interval) → bottom_of p ≡ within i t
    → bottom_of n ≡ within (grown 12 (bottom_of p).interval) p → bottom_of n ≡ within (grown 12 i) t
next-coded t p n i e f =
    f ∙ ap (λ (c : Coder). record { interval = grown 12 c.interval; until = c.until; held = c.held }) e

-- ---- one pel, of a coder whose registers are ready with the string at the bottom
pub top-fits : (t : Top) → Ready (lift (bottom_of t) []) → t.width ≤ t.top → t.top < 2 ^ 26
top-fits t r h = omega (arith, low_fits _ r.rest.fit, r.rest.fit.narrow)

-- r has the bytes that fall due in m shifts; v has the registers after those shifts, with no byte made
abbrev pub Settles : Put Coder → Coder → ℕ → Type 0
Settles r v m =
    (c a s : ℕ) → v.interval.low ≡ c * 2 ^ (m - v.until) → v.interval.width ≡ a * 2 ^ (m - v.until)
    → v.interval.count ≡ s + (m - v.until)
    → steps (m - v.until) (byte (there [] c a s v.held)) ≡ lift r.coder (settled_of r)

module _ (t : Top) (q : ℕ) (e : Bool) (ready : Ready (lift (bottom_of t) [])) (some : 1 ≤ q) (small : q ≤ 0xAC1) where
  abbrev P : Interval
  P = part_of (decision q e) (bottom_of t).interval

  pub grow-fits : t.count < max_shifts → (p : Top) → bottom_of p ≡ within P t → Fits (bottom_of p).interval
  grow-fits h p is =
      subst (λ (c : Coder). Fits c.interval) (sym is)
      (part-fits q e (bottom_of t).interval ready.wide (omega (arith, ready.rest.fit.narrow)) some small
      (low_fits _ ready.rest.fit) h)

  -- the registers after a pel are small enough to move the string up again
  pub above-fits : (c : Coder) (xs : List ℕ) → pel (decision q e) (lift (bottom_of t) []) ≡ lift c xs
      → (c.interval.low < 2 ^ 25) × (c.interval.width < 8192)
  above-fits c xs is =
      let r : Ready (lift c xs) = subst Ready is (ready-pel (decision q e) (lift (bottom_of t) []) ready
      (record { some = some; small = small })) in
      (low_fits _ r.rest.fit, omega (arith, r.rest.fit.narrow))

  -- n has the registers after the pel's k shifts, with no byte made
  module _ (n : Top) (k : ℕ) (next : bottom_of n ≡ within (coded (decision q e) (bottom_of t).interval) t)
      (many : k ≡ doublings 12 P.width) where
    pub top-few : k < n.until → pel (decision q e) (lift (bottom_of t) []) ≡ lift (bottom_of (waited k n)) []
    top-few h =
        pel-few (bottom_of t) q e ready some small (subst₂ (λ (c : Coder) (m : ℕ). m < c.until) next many h)
        ∙ sym
        (ap₂ (λ (c : Coder) (m : ℕ). lift
        (record { interval = c.interval; until = c.until - m; held = c.held }) []) next many)

    due : n.until ≤ k → t.until ≤ doublings 12 P.width
    due h = subst₂ (λ (c : Coder) (m : ℕ). c.until ≤ m) next many h

    pub settle-fits : n.until ≤ k
        → (n.held ≤ 255) × (k - n.until ≤ 11) × (n.top - n.width < 33554432 * 2 ^ (k - n.until))
    settle-fits h =
        subst₂
        (λ (c : Coder) (m : ℕ). (c.held ≤ 255) × (m - c.until ≤ 11)
        × (c.interval.low < 33554432 * 2 ^ (m - c.until)))
        (sym next) (sym many) (
          ready.rest.fit.octet,
          left_over (bottom_of t) q e ready some small (due h),
          (split (bottom_of t) q e ready some small (due h)).short,
        )

    pub top-bytes : (r : Put Coder) → n.until ≤ k → Settles r (bottom_of n) k → pel (decision q e) (lift (bottom_of t) [])
        ≡ lift r.coder (settled_of r)
    top-bytes r h f =
        let s = split (bottom_of t) q e ready some small (due h) in
        pel-bytes (bottom_of t) q e ready some small (due h)
        ∙ subst₂ (Settles r) next many f _ _ _ s.low s.width s.count
