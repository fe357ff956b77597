-- Laws of white runs: more of them, part of them, and the window along them. Assumes nothing.
use mathlib.Core.Path.{◌≡◌, sym, ap, ◌∙◌}
use Prim.Native.Nat.{ℕ, ◌+◌, ◌-◌, ◌*◌, ◌/◌, ◌%◌, ◌^◌, ◌≤◌, ◌<◌}
use native.Mathlib.Omega.{arith}
use native.Mathlib.Decide.{dec_lt}
use mathlib.Core.List.{List}
use lib.Bits.{bit_and}
use lib.Count.{count_leading_zeros}
use lib.ListN.{get_or}
use Rattle.template.specs.declared.Window.{Window}
use Rattle.template.specs.Pels.{pel_at, pels_to, right_of}
use Rattle.template.specs.Window.{Slid}
use Rattle.template.proofs.Sliding.{pels-at, pels-past}
use Rattle.template.specs.Words.{Word}
use Rattle.template.proofs.Words.{masked, zeros-more, zeros-white}
use Rattle.template.specs.White.{White, Under, Clear, white_window}

white-none : (row : List ℕ) (x y : ℕ) → y ≤ x → White row x y
white-none row x y h = record { pels = λ z k l. absurd (omega arith) }

pub white-more : (row : List ℕ) (x y z : ℕ) → White row x y → White row y z → White row x z
white-more row x y z f g = record { pels = λ w h k. go w h k (dec_lt w y) }
  where
    go : (w : ℕ) → x ≤ w → w < z → Dec (w < y) → pel_at row w ≡ 0
    go w h k (yes l) = f.pels w h l
    go w h k (no l) = g.pels w (omega arith) k

pub white-part : (row : List ℕ) (x y x' y' : ℕ) → x ≤ x' → y' ≤ y → White row x y → White row x' y'
white-part row x y x' y' h k f = record { pels = λ z a b. f.pels z (omega arith) (omega arith) }

-- as far as the leading zeros of eight bytes reach, without the pels before y
pub white-word : (row : List ℕ) (k w y : ℕ) → Word row k 8 w → 8 * k ≤ y → y < 8 * k + 64
    → let r = 8 * k + count_leading_zeros 64 (bit_and w (18446744073709551615 / 2 ^ (y - 8 * k))) in (y ≤ r) × (r ≤ 8 * k + 64)
    × White row y r
white-word row k w y f l u =
    let m = zeros-more row k w (y - 8 * k) f (omega arith) in
    rw (masked w (y - 8 * k) (omega arith)) (omega arith, omega arith, record { pels = pel })
  where
    pel : (z : ℕ) → y ≤ z → z < 8 * k + count_leading_zeros 64 (w % 2 ^ (64 - (y - 8 * k))) → pel_at row z ≡ 0
    pel z a b =
        let i : 8 * k + (z - 8 * k) ≡ z = omega arith in
        ap (pel_at row) (sym i) ∙ zeros-white row k w (y - 8 * k) f (omega arith) (z - 8 * k) (omega arith) (omega arith)

pub under_none : (above : List ℕ) (x y : ℕ) → y ≤ x → Under above x y
under_none above x y h = record { pels = λ z k l. absurd (omega arith) }

pub under-part : (above : List ℕ) (x y x' y' : ℕ) → x ≤ x' → y' ≤ y → Under above x y → Under above x' y'
under-part above x y x' y' h k f = record { pels = λ z a b. f.pels z (omega arith) (omega arith) }

-- up to two places before the first black pel above, or to the right edge
pub under-white : (row : List ℕ) (width x y n : ℕ) → White row x y → ((z : ℕ) → z < n → z + 2 < width → z + 2 < y)
    → Under (pels_to row width) x n
under-white row width x y n f g = record { pels = λ z h k. go z h k (dec_lt (z + 2) width) }
  where
    go : (z : ℕ) → x ≤ z → z < n → Dec (z + 2 < width) → get_or (pels_to row width) (z + 2) 0 ≡ 0
    go z h k (yes l) = pels-at row width (z + 2) l ∙ f.pels (z + 2) (omega arith) (g z k l)
    go z h k (no l) = pels-past row width (z + 2) (omega arith)

pub clear_none : (row above : List ℕ) (width x y : ℕ) → y ≤ width → y ≤ x → Clear row above width x y
clear_none row above width x y h k = record { within = h; white = white-none row x y k; under = under_none above x y k }

pub clear_later : (row above : List ℕ) (width x y z : ℕ) → x ≤ z → Clear row above width x y → Clear row above width z y
clear_later row above width x y z h f =
    record {
      within = f.within;
      white = white-part row x y z y h (omega arith) f.white;
      under = under-part above x y z y h (omega arith) f.under;
    }

-- a window that is all white is such a one
pub slid-white : (above this : List ℕ) (x : ℕ) (w : Window) → Slid above this x w → 4 * w.above + w.this ≡ 0
    → w ≡ white_window above x
unfolding right_of
slid-white above this x w s h =
    let e : get_or above (x + 2) 0 ≡ 0 = omega (arith, s.five) in
    let a : w.above ≡ get_or above (x + 2) 0 = omega arith in
    let t : w.this ≡ 0 = omega arith in
    λ i. record { above = a i; this = t i }
