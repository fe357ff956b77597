-- The value of a code and its places, byte by byte. Assumes nothing.
use mathlib.Core.Path.{◌≡◌, refl, ◌∙◌}
use Prim.Native.Nat.{ℕ, ◌+◌, ◌*◌, ◌^◌, ◌≤◌}
use native.Mathlib.Omega.{arith}
use mathlib.Core.List.{List, [], ◌∷◌, ◌++◌}
use lib.Pow.{pow-add}
use Rattle.octets.specs.Octets.{bits}
use Rattle.exact.specs.Value.{places, value}

-- ---- bytes in front
pub places-one : (b d : ℕ) → places b (d ∷ []) ≡ bits b
unfolding places
places-one b d = omega arith

pub places-cons : (b d : ℕ) (ds : List ℕ) → 2 ^ places b (d ∷ ds) ≡ 2 ^ bits b * 2 ^ places d ds
unfolding places
places-cons b d ds = pow-add 2 (bits b) (places d ds)

pub value-one : (d : ℕ) → value (d ∷ []) ≡ d
unfolding value places
value-one d = omega arith

pub value-cons : (b d : ℕ) (ds : List ℕ) → value (b ∷ d ∷ ds) ≡ b * (2 ^ bits b * 2 ^ places d ds) + value (d ∷ ds)
unfolding value
value-cons b d ds = rw (places-cons b d ds)

pub head-le : (d : ℕ) (ds : List ℕ) → d * 2 ^ places d ds ≤ value (d ∷ ds)
unfolding value
head-le d ds = omega arith

-- ---- bytes behind
pub places-more : (b : ℕ) (xs ys : List ℕ) → places b xs ≤ places b (xs ++ ys)
unfolding places
places-more b [] ys = omega arith
places-more b (x ∷ xs) ys = omega (arith, places-more x xs ys)

pub places-split : (z : ℕ) (xs : List ℕ) (l : ℕ) (us : List ℕ) → places z (xs ++ (l ∷ us)) ≡ places z (xs ++ (l ∷ []))
    + places l us
unfolding places
places-split z [] l us = omega arith
places-split z (x ∷ xs) l us = omega (arith, places-split x xs l us)

pub value-split : (xs : List ℕ) (l : ℕ) (us : List ℕ) → value (xs ++ (l ∷ us)) ≡ value (xs ++ (l ∷ [])) * 2 ^ places l
    us + value us
unfolding value places
value-split [] l us = omega arith
value-split (x ∷ xs) l us = rw (places-split x xs l us, pow-add 2 (places x (xs ++ (l ∷ []))) (places l us))
    (omega (arith, value-split xs l us))

pub places-snoc : (z : ℕ) (xs : List ℕ) (b d : ℕ) → places z (xs ++ (b ∷ d ∷ [])) ≡ places z (xs ++ (b ∷ [])) + bits b
places-snoc z xs b d = omega (arith, places-split z xs b (d ∷ []), places-one b d)

pub places-last : (z : ℕ) (xs : List ℕ) (b d : ℕ) → places z (xs ++ (b ∷ [])) ≡ places z (xs ++ (d ∷ []))
unfolding places
places-last z [] b d = refl
places-last z (x ∷ xs) b d = omega (arith, places-last x xs b d)

pub value-last : (xs : List ℕ) (b : ℕ) → value (xs ++ (b ∷ [])) ≡ value (xs ++ (0 ∷ [])) + b
unfolding value places
value-last [] b = omega arith
value-last (x ∷ xs) b = rw (places-last x xs b 0) (omega (arith, value-last xs b))

-- a byte more brings its bits
pub value-snoc : (xs : List ℕ) (b d : ℕ) → value (xs ++ (b ∷ d ∷ [])) ≡ value (xs ++ (b ∷ [])) * 2 ^ bits b + d
value-snoc xs b d = value-split xs b (d ∷ []) ∙ rw (places-one b d, value-one d)
