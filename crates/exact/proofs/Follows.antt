-- The bytes that were made, and what follows them. S tells the two apart: a 00 that the bits needed and one that
-- follows an FF cannot be confused. And no code ends in FF. Assumes nothing.
use mathlib.Core.Path.{◌≡◌, refl, sym, ap, ◌∙◌, subst}
use mathlib.Core.Logic.{◌≢◌, ◌⊎◌, inl, inr}
use Prim.Native.Nat.{ℕ, suc, ◌+◌, ◌≤◌}
use native.Mathlib.Omega.{arith}
use mathlib.Core.List.{List, [], ◌∷◌, ◌++◌, append-nil}
use lib.ListN.{length, take, length-append}
use lib.Dec.{eqb}
use lib.Seq.{take-append_seam}
use Rattle.ground.proofs.Tests.{by_cond, neqb→ne}
use Rattle.octets.specs.Octets.{follows}
use Rattle.exact.specs.Value.{Made, last_of, need, places}

-- the last byte is needed for one bit more than the others bring
need-snoc : (b : ℕ) (xs : List ℕ) (d : ℕ) → need b (xs ++ (d ∷ [])) ≡ suc (places b xs)
unfolding need places
need-snoc b [] d = refl
need-snoc b (x ∷ []) d = omega arith
need-snoc b (x ∷ y ∷ ys) d = omega (arith, need-snoc x (y ∷ ys) d)

-- of two lists of bytes made, none has a byte more than the other
no_more : (S : ℕ) (code xs ys : List ℕ) → Made S code xs → Made S code ys → ys ≡ xs ++ (0 ∷ []) → ⊥
no_more S code xs ys m k e =
    let n : need 0 (xs ++ (0 ∷ [])) ≤ 12 + S = subst (λ (l : List ℕ). need 0 l ≤ 12 + S) e k.wanted in
    omega (arith, m.covers, need-snoc 0 xs 0)

front-is : (xs ys : List ℕ) → xs ++ (0 ∷ []) ≡ ys ++ (0 ∷ []) → xs ≡ ys
front-is xs ys e =
    let n : length xs ≡ length ys = omega (arith, ap length e, length-append xs (0 ∷ []), length-append ys (0 ∷ [])) in
    sym (take-append_seam xs (0 ∷ [])) ∙ ap (take (length xs)) e ∙ ap (λ (k : ℕ). take k (ys ++ (0 ∷ []))) n
    ∙ take-append_seam ys (0 ∷ [])

-- the code is what was made, or one byte 00 more
pub made_ends : (S : ℕ) (code made : List ℕ) → Made S code made → (code ≡ made) ⊎ (code ≡ made ++ (0 ∷ []))
unfolding follows
made_ends S code made m =
    by_cond (λ (l : List ℕ). code ≡ made ++ l → (code ≡ made) ⊎ (code ≡ made ++ (0 ∷ []))) (eqb (last_of 0 made) 255)
    (0 ∷ []) [] (λ t e. inr e) (λ t e. inl (e ∙ append-nil made)) m.joined

pub one-made : (S : ℕ) (code xs ys : List ℕ) → Made S code xs → Made S code ys → xs ≡ ys
one-made S code xs ys m k = go (made_ends S code xs m) (made_ends S code ys k)
  where
    go : (code ≡ xs) ⊎ (code ≡ xs ++ (0 ∷ [])) → (code ≡ ys) ⊎ (code ≡ ys ++ (0 ∷ [])) → xs ≡ ys
    go (inl a) (inl b) = sym a ∙ b
    go (inl a) (inr b) = absurd (no_more S code ys xs k m (sym a ∙ b))
    go (inr a) (inl b) = absurd (no_more S code xs ys m k (sym b ∙ a))
    go (inr a) (inr b) = front-is xs ys (sym a ∙ b)

-- ---- no code ends in FF
never-ff : (b : ℕ) (xs : List ℕ) → last_of b (xs ++ follows (last_of b xs)) ≢ 255
unfolding follows
never-ff b [] = by_cond (λ (l : List ℕ). last_of b l ≢ 255) (eqb b 255) (0 ∷ []) [] (λ t e. omega arith)
    (λ t. neqb→ne b 255 t)
never-ff b (x ∷ xs) = never-ff x xs

pub last-not-ff : (S : ℕ) (code made : List ℕ) → Made S code made → last_of 0 code ≢ 255
last-not-ff S code made m = subst (λ (l : List ℕ). last_of 0 l ≢ 255) (sym m.joined) (never-ff 0 made)
