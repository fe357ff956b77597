-- Stores into a lent buffer, one after another. Assumes nothing.
use mathlib.Core.Path.{◌≡◌, refl, sym, ap, ap₂, ◌∙◌}
use Prim.Native.Nat.{ℕ, zero, suc, ◌+◌, ◌-◌, ◌≤◌, ◌<◌}
use native.Mathlib.Nat.{add-zero, add-suc, suc-add, zero-add}
use native.Mathlib.Omega.{arith}
use mathlib.Core.List.{List, [], ◌∷◌, ◌++◌}
use lib.ListN.{length, get_or, take, drop, set, length-set}
use lib.Seq.{length-take-le, take-suc, sets, sets-eq}
use mathlib.Core.Logic.{◌⊎◌, inl, inr}
use borrow.Author.Tests.{le-leb, lt-leb}
use denote.Bor.{Bor}
use Rattle.std.specs.Prelude.{Option, Some, None}
use Rattle.std.specs.Option.{MatchOption, unwrap_or}
use Rattle.std.specs.List.{slice_range}
use Rattle.store.specs.Store.{store_at, stores, in_front, front}

pub store-none : (out : List ℕ) (at b : ℕ) → at ≡ 0 → out ≡ store_at out at b
unfolding store_at
store-none out zero b e = refl
store-none out (suc n) b e = absurd (omega arith)

pub store-some : (out : List ℕ) (at b : ℕ) → (at ≡ 0 → ⊥) → set out (at - 1) b ≡ store_at out at b
unfolding store_at
store-some out zero b e = absurd (e refl)
store-some out (suc n) b e = ap (λ (k : ℕ). set out k b) (omega arith)

pub stores-append : (out : List ℕ) (at : ℕ) (xs ys : List ℕ) → stores (stores out at xs) (at + length xs) ys ≡ stores
    out at (xs ++ ys)
unfolding stores
stores-append out at [] ys = ap (λ (k : ℕ). stores out k ys) (add-zero at)
stores-append out at (x ∷ xs) ys = ap (λ (k : ℕ). stores (stores (store_at out at x) (suc at) xs) k ys)
    (add-suc at (length xs) ∙ sym (suc-add at (length xs))) ∙ stores-append (store_at out at x) (suc at) xs ys

-- one byte more of a list that is stored from its front
pub stores-next : (out₀ xs out : List ℕ) (at next i : ℕ) → i < length xs → out ≡ stores out₀ at (take i xs)
    → next ≡ at + i → store_at out next (get_or xs i 0) ≡ stores out₀ at (take (suc i) xs)
unfolding stores
stores-next out₀ xs out at next i h e f =
    let l : length (take i xs) ≡ i = length-take-le i xs (omega arith) in
    ap₂ (λ (o : List ℕ) (n : ℕ). store_at o n (get_or xs i 0)) e (f ∙ ap (λ (k : ℕ). at + k) (sym l)) ∙ stores-append out₀
    at (take i xs) (get_or xs i 0 ∷ [])
    ∙ ap (stores out₀ at) (sym (take-suc xs i 0 h))

pub length-stores : (out : List ℕ) (at : ℕ) (xs : List ℕ) → length (stores out at xs) ≡ length out
unfolding stores store_at
length-stores out at [] = refl
length-stores out zero (x ∷ xs) = length-stores out 1 xs
length-stores out (suc n) (x ∷ xs) = length-stores (set out n x) (suc (suc n)) xs ∙ length-set out n x

stores-sets : (out : List ℕ) (n : ℕ) (xs : List ℕ) → stores out (suc n) xs ≡ sets out n xs
unfolding stores store_at
stores-sets out n [] = refl
stores-sets out n (x ∷ xs) = stores-sets (set out n x) (suc n) xs

stores-drop : (out xs : List ℕ) → stores out 0 xs ≡ sets out 0 (drop 1 xs)
unfolding stores store_at
stores-drop out [] = refl
stores-drop out (x ∷ xs) = stores-sets out 0 xs

-- where all but the first fit, they stand in front, and the rest is kept
pub stores-fit : (out xs : List ℕ) → length (drop 1 xs) ≤ length out → stores out 0 xs ≡ in_front (drop 1 xs) out
unfolding in_front
stores-fit out xs h = stores-drop out xs ∙ sets-eq (drop 1 xs) out 0 (rw zero-add h) ∙ rw zero-add

-- ---- what std gives of a buffer's first n bytes is its front part
pub front-got : (o : Option (Bor (List ℕ))) (buf : List ℕ) (n : ℕ) (r none : Bor (List ℕ))
    → MatchOption o ((n < 0) ⊎ (length buf < n))
    (λ x. (0 ≤ n) × (n ≤ length buf) × (x.now ≡ slice_range buf 0 n) × (length x.now + 0 ≡ n))
    → none.now ≡ [] → r ≡ unwrap_or o none → r.now ≡ front n buf
unfolding front
front-got None buf n r none (inl m) z u = absurd (omega arith)
front-got None buf n r none (inr m) z u = rw (lt-leb n (length buf) m, u) z
front-got (Some x) buf n r none m z u =
    rw (le-leb n (length buf) m.1, u, m.2) (ap (λ (k : ℕ). take k buf) (omega arith))
