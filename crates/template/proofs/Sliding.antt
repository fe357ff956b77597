-- The context slides: the registers' sum is document 01's at every pel. Assumes nothing.
use mathlib.Core.Path.{◌≡◌, refl, sym, ap, ◌∙◌, subst}
use Prim.Native.Nat.{ℕ, zero, suc, ◌+◌, ◌-◌, ◌*◌, ◌/◌, ◌%◌, ◌≤◌, ◌<◌}
use native.Mathlib.Omega.{arith}
use mathlib.Core.Bool.{Bool, true, false, cond, not}
use mathlib.Core.List.{List, [], ◌∷◌, ◌++◌}
use lib.ListN.{get_or, length, get_or-append, get_or-eq_default, length-append}
use lib.Seq.{get_or-append_seam}
use lib.Dec.{T, ltb, nltb→le}
use native.Mathlib.Decide.{dec_lt}
use Rattle.ground.proofs.Tests.{by_cond, if-ge}
use Rattle.template.specs.declared.Window.{Window}
use Rattle.template.specs.Pels.{pel_at, pels_to, left_of, right_of, context}
use Rattle.template.specs.Window.{Slid, parted}

-- ---- the pels of a packed row, one by one
-- Pels are 0 (white) or 1 (black).
pub pel-bit : (row : List ℕ) (x : ℕ) → pel_at row x ≤ 1
unfolding pel_at
pel-bit row x = omega arith

pub length-pels : (row : List ℕ) (n : ℕ) → length (pels_to row n) ≡ n
unfolding pels_to
length-pels row zero = refl
length-pels row (suc n) = length-append (pels_to row n) (pel_at row n ∷ []) ∙ omega (arith, length-pels row n)

pub pels-at : (row : List ℕ) (n x : ℕ) → x < n → get_or (pels_to row n) x 0 ≡ pel_at row x
unfolding pels_to
pels-at row zero x h = absurd (omega arith)
pels-at row (suc n) x h = go (dec_lt x n) (λ l. pels-at row n x l)
  where
    last : x ≡ n → get_or (pels_to row n ++ (pel_at row n ∷ [])) x 0 ≡ pel_at row x
    last e =
        ap (λ (k : ℕ). get_or (pels_to row n ++ (pel_at row n ∷ [])) k 0) (e ∙ sym (length-pels row n)) ∙ get_or-append_seam
        (pels_to row n) (pel_at row n) [] 0 ∙ ap (pel_at row) (sym e)

    go : Dec (x < n) → (x < n → get_or (pels_to row n) x 0 ≡ pel_at row x) → get_or (pels_to row n ++ (pel_at row n ∷ [])) x 0
        ≡ pel_at row x
    go (yes l) f = get_or-append (pels_to row n) (pel_at row n ∷ []) 0 x (omega (arith, length-pels row n)) ∙ f l
    go (no l) f = last (omega arith)

pub pels-past : (row : List ℕ) (n x : ℕ) → n ≤ x → get_or (pels_to row n) x 0 ≡ 0
pels-past row n x h = get_or-eq_default (pels_to row n) 0 {n = x} (omega (arith, length-pels row n))

-- rows of pels: each is 0 or 1
abbrev pub Bits : List ℕ → Type 0
Bits row = (x : ℕ) → get_or row x 0 ≤ 1

pub pels-bits : (row : List ℕ) (n : ℕ) → Bits (pels_to row n)
pels-bits row n x = go (dec_lt x n)
  where
    go : Dec (x < n) → get_or (pels_to row n) x 0 ≤ 1
    go (yes l) = rw (pels-at row n x l) (pel-bit row x)
    go (no l) = rw (pels-past row n x (omega arith)) (omega arith)

-- ---- one place on
left-bit : (row : List ℕ) (x d : ℕ) → Bits row → left_of row x d ≤ 1
unfolding left_of
left-bit row x d b = by_cond (λ (k : ℕ). k ≤ 1) (ltb x d) 0 (get_or row (x - d) 0) (λ t. omega arith) (λ t. b (x - d))

left_one : (row : List ℕ) (x : ℕ) → left_of row (suc x) 1 ≡ get_or row x 0
unfolding left_of
left_one row x = if-ge (suc x) 1 0 (get_or row (suc x - 1) 0) (omega arith) ∙ ap (λ (k : ℕ). get_or row k 0) (omega arith)

left-two : (row : List ℕ) (x : ℕ) → left_of row (suc x) 2 ≡ left_of row x 1
unfolding left_of
left-two row zero = refl
left-two row (suc x) =
    if-ge (suc (suc x)) 2 0 (get_or row (suc (suc x) - 2) 0) (omega arith) ∙ ap (λ (k : ℕ). get_or row k 0) (omega arith)
    ∙ sym (if-ge (suc x) 1 0 (get_or row (suc x - 1) 0) (omega arith))

-- a pel more in the row changes nothing to its left
left-more : (row : List ℕ) (p d : ℕ) → 1 ≤ d → left_of (row ++ (p ∷ [])) (length row) d ≡ left_of row (length row) d
unfolding left_of
left-more row p d h = pick (ltb (length row) d) (λ t. get_or-append row (p ∷ []) 0 (length row - d)
    (omega (arith, nltb→le (length row) d t)))
  where
    pick : (b : Bool) → (T (not b) → get_or (row ++ (p ∷ [])) (length row - d) 0 ≡ get_or row (length row - d) 0)
        → cond b 0 (get_or (row ++ (p ∷ [])) (length row - d) 0) ≡ cond b 0 (get_or row (length row - d) 0)
    pick true f = refl
    pick false f = f tt

pub slid-context : (above this : List ℕ) (x : ℕ) (w : Window) → Slid above this x w → 4 * w.above + w.this ≡ context
    above this x
unfolding context
slid-context above this x w s = omega (arith, s.five, s.two)

pub slid-small : (above this : List ℕ) (x : ℕ) (w : Window) → Bits above → Bits this → Slid above this x w
    → (w.above < 32) × (w.this < 4)
unfolding right_of
slid-small above this x w a b s = (
  omega (arith, s.five, a (x + 2), a (x + 1), a (x + 0), left-bit above x 1 a, left-bit above x 2 a),
  omega (arith, s.two, left-bit this x 1 b, left-bit this x 2 b),
)

pub slid-start : (above : List ℕ)
    → Slid above [] 0 (record { above = get_or above 2 0 + 2 * get_or above 1 0 + 4 * get_or above 0 0; this = 0 })
unfolding right_of left_of
slid-start above = record { five = omega arith; two = refl }

slid-next : (above this : List ℕ) (p : ℕ) (w : Window) → Bits above → Bits this → p ≤ 1
    → Slid above this (length this) w
    → Slid above (this ++ (p ∷ [])) (suc (length this))
    (record { above = (2 * w.above + get_or above (length this + 3) 0) % 32; this = (2 * w.this + p) % 4 })
unfolding right_of
slid-next above this p w a b h s =
    let x : ℕ = length this in
    record {
      five = five x s.five (left_one above x) (left-two above x) (left-bit above x 1 a) (left-bit above x 2 a)
          (a (x + 0)) (a (x + 1)) (a (x + 2)) (a (x + 3));
      two = two s.two (left-bit this x 1 b) (left-bit this x 2 b);
    }
  where
    five : (x : ℕ) → w.above ≡ get_or above (x + 2) 0 + 2 * get_or above (x + 1) 0 + 4 * get_or above (x + 0) 0 + 8 * left_of
        above x 1 + 16 * left_of above x 2
        → left_of above (suc x) 1 ≡ get_or above x 0 → left_of above (suc x) 2 ≡ left_of above x 1 → left_of above x 1 ≤ 1
        → left_of above x 2 ≤ 1
        → get_or above (x + 0) 0 ≤ 1 → get_or above (x + 1) 0 ≤ 1 → get_or above (x + 2) 0 ≤ 1 → get_or above (x + 3) 0 ≤ 1
        → (2 * w.above + get_or above (x + 3) 0) % 32
        ≡ get_or above (suc x + 2) 0 + 2 * get_or above (suc x + 1) 0 + 4 * get_or above (suc x + 0) 0 + 8 * left_of above
        (suc x) 1 + 16 * left_of above (suc x) 2
    five x e l m i j c0 c1 c2 c3 =
        let z : get_or above (x + 0) 0 ≡ get_or above x 0 = ap (λ (k : ℕ). get_or above k 0) (omega arith) in
        let z0 : get_or above (suc x + 0) 0 ≡ get_or above (x + 1) 0 = ap (λ (k : ℕ). get_or above k 0) (omega arith) in
        let z1 : get_or above (suc x + 1) 0 ≡ get_or above (x + 2) 0 = ap (λ (k : ℕ). get_or above k 0) (omega arith) in
        let z2 : get_or above (suc x + 2) 0 ≡ get_or above (x + 3) 0 = ap (λ (k : ℕ). get_or above k 0) (omega arith) in
        omega arith

    here : left_of (this ++ (p ∷ [])) (suc (length this)) 1 ≡ p
    here = left_one (this ++ (p ∷ [])) (length this) ∙ get_or-append_seam this p [] 0

    there : left_of (this ++ (p ∷ [])) (suc (length this)) 2 ≡ left_of this (length this) 1
    there = left-two (this ++ (p ∷ [])) (length this) ∙ left-more this p 1 (omega arith)

    two : w.this ≡ left_of this (length this) 1 + 2 * left_of this (length this) 2 → left_of this (length this) 1 ≤ 1
        → left_of this (length this) 2 ≤ 1
        → (2 * w.this + p) % 4 ≡ left_of (this ++ (p ∷ [])) (suc (length this)) 1 + 2 * left_of (this ++ (p ∷ []))
        (suc (length this)) 2
    two e i j = omega (arith, here, there)

-- the same, with the numbers as a loop has them
pub slid-on : (above this : List ℕ) (x p : ℕ) (w w' : Window) → Bits above → Bits this → length this ≡ x → p ≤ 1
    → Slid above this x w → w'.above ≡ (2 * w.above + get_or above (x + 3) 0) % 32 → w'.this ≡ (2 * w.this + p) % 4
    → Slid above (this ++ (p ∷ [])) (suc x) w'
slid-on above this x p w w' a b l h s wa wt =
    let n = subst (λ (k : ℕ). Slid above (this ++ (p ∷ [])) (suc k)
    (record { above = (2 * w.above + get_or above (k + 3) 0) % 32; this = (2 * w.this + p) % 4 })) l
    (slid-next above this p w a b h (subst (λ (k : ℕ). Slid above this k w) (sym l) s)) in
    record { five = wa ∙ n.five; two = wt ∙ n.two }

-- the registers of a context are those whose sum it is
pub parted-sum : (w : Window) → w.this < 4 → parted (4 * w.above + w.this) ≡ w
parted-sum w h = λ i. record { above = high w.above w.this h i; this = low w.above w.this h i }
  where
    high : (a t : ℕ) → t < 4 → (4 * a + t) / 4 ≡ a
    high a t l = omega arith

    low : (a t : ℕ) → t < 4 → (4 * a + t) % 4 ≡ t
    low a t l = omega arith
