-- P1 to P11 hold of the definitions, by computation, and by what no band of one pel can be written as. Assumes nothing.
use mathlib.Core.Path.{◌≡◌, refl, sym, ap, ◌∙◌}
use mathlib.Core.Logic.{◌⊎◌, inl, inr}
use Prim.Native.Nat.{ℕ, zero, suc, ◌≤◌}
use native.Mathlib.Omega.{arith}
use mathlib.Core.List.{List, [], ◌∷◌}
use lib.ListN.{get_or, length}
use Rattle.coder.specs.Writing.{after, band_code}
use Rattle.coder.specs.Page.{context_of, entry_at, size, sense, taught, placed, move}
use Rattle.estimate.specs.Estimate.{row_of, rise, fall, flip, next, fresh}
use Rattle.octets.specs.Octets.{bits, carried, left, byte, due, shifts, pads, cover, finish, bytes, follows, ended}
use Rattle.octets.specs.Octets.{code}
use Rattle.template.specs.Pels.{row_at, pel_at, pels_to, band_to, left_of, right_of, context}
use Rattle.template.proofs.Sliding.{pel-bit}
use Rattle.band.specs.Band.{written, last_row, white, q_writer, q_page, page_at}
use Rattle.band.specs.Worked.{new, damaged, Holds, All, cases}

-- a band of one pel is written as one of two codes
abbrev pel_code : ℕ → List ℕ
pel_code p = band_code (q_page 1) q_writer (page_at 1 new.table new.last) (p ∷ [])

two-codes : (p : ℕ) → p ≤ 1 → (pel_code p ≡ 0xAC ∷ 0x10 ∷ []) ⊎ (pel_code p ≡ 0x00 ∷ 0x00 ∷ [])
unfolding written last_row white after context_of entry_at size sense taught placed move row_of rise fall flip next fresh
    bits carried left byte due shifts pads cover finish bytes follows ended code pel_at pels_to band_to left_of right_of
    context
two-codes zero h = inl refl
two-codes (suc zero) h = inr refl
two-codes (suc (suc n)) h = absurd (omega arith)

one-pel : (c : List ℕ) → (c ≡ 0xAC ∷ 0x10 ∷ [] → ⊥) → (c ≡ 0x00 ∷ 0x00 ∷ [] → ⊥) → Holds (damaged 1 1 c)
unfolding written band_to pels_to
one-pel c f g pels l e = go (two-codes (pel_at (row_at 1 pels 0) 0) (pel-bit (row_at 1 pels 0) 0))
  where
    go : (pel_code (pel_at (row_at 1 pels 0) 0) ≡ 0xAC ∷ 0x10 ∷ []) ⊎ (pel_code (pel_at (row_at 1 pels 0) 0) ≡ 0x00
        ∷ 0x00 ∷ []) → ⊥
    go (inl k) = f (sym e ∙ k)
    go (inr k) = g (sym e ∙ k)

-- two lists that differ at a place, or in length
apart : (k x y : ℕ) (c d : List ℕ) → get_or c k 0 ≡ x → get_or d k 0 ≡ y → (x ≡ y → ⊥) → c ≡ d → ⊥
apart k x y c d p q n e = n (sym p ∙ ap (λ (l : List ℕ). get_or l k 0) e ∙ q)

longer : (x y : ℕ) (c d : List ℕ) → length c ≡ x → length d ≡ y → (x ≡ y → ⊥) → c ≡ d → ⊥
longer x y c d p q n e = n (sym p ∙ ap length e ∙ q)

ac-11 : Holds (damaged 1 1 (0xAC ∷ 0x11 ∷ []))
ac-11 = one-pel (0xAC ∷ 0x11 ∷ []) (apart 1 0x11 0x10 _ _ refl refl (λ e. omega arith))
    (apart 0 0xAC 0 _ _ refl refl (λ e. omega arith))

three-zeros : Holds (damaged 1 1 (0x00 ∷ 0x00 ∷ 0x00 ∷ []))
three-zeros =
    one-pel (0 ∷ 0 ∷ 0 ∷ []) (longer 3 2 _ _ refl refl (λ e. omega arith)) (longer 3 2 _ _ refl refl (λ e. omega arith))

none : Holds (damaged 1 1 [])
none = one-pel [] (longer 0 2 _ _ refl refl (λ e. omega arith)) (longer 0 2 _ _ refl refl (λ e. omega arith))

-- the single claim: every row of the table holds
pub worked : All cases
unfolding written last_row white after context_of entry_at size sense taught placed move row_of rise fall flip next fresh
    bits carried left byte due shifts pads cover finish bytes follows ended code pel_at pels_to band_to left_of right_of
    context
worked = (
  (refl, refl),
  (
    (refl, refl),
    (
      (refl, refl),
      (
        (refl, refl),
        (
          (refl, refl),
          (
            (refl, refl),
            (
              (refl, refl),
              (
                (refl, refl),
                ((refl, refl), (refl, (refl, (refl, (refl, (refl, (refl, (ac-11, (three-zeros, (none, tt)))))))))),
              ),
            ),
          ),
        ),
      ),
    ),
  ),
)
