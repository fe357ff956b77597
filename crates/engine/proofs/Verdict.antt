-- The end of a band, by any engine: its code, its shifts, its pels revisited. And the verdict of any reader beside it:
-- what was read was written so, or no pels of that number were. Assumes nothing.
use mathlib.Core.Path.{◌≡◌, sym, ap, ap₂, ◌∙◌}
use Prim.Native.Nat.{ℕ, ◌+◌, ◌-◌, ◌≤◌}
use native.Mathlib.Nat.{zero-add, add-zero}
use native.Mathlib.Omega.{arith}
use mathlib.Core.Bool.{Bool, true, false, ◌&&◌}
use mathlib.Core.List.{List, [], ◌++◌, append-nil}
use lib.ListN.{length, drop, length-append}
use lib.Dec.{eqb}
use Rattle.ground.proofs.Bools.{no_way}
use Rattle.coder.specs.Writing.{Stage, after, opening, band_code, band_count, band_revisits, band_model}
use Rattle.coder.proofs.Writing.{AllPels}
use Rattle.coder.specs.Page.{Page, size, sense}
use Rattle.coder.specs.Reading.{Reader, read_pels}
use Rattle.coder.proofs.Reading.{IsCoder, written_read}
use Rattle.engine.specs.Engine.{Engine}
use Rattle.engine.specs.Coded.{shifts_of, pages, stage_of, through, Coded}
use Rattle.engine.specs.Followed.{matches, reads, Followed}
use Rattle.engine.proofs.Engine.{IsEngine}
use Rattle.engine.proofs.Matching.{matches-append, agreed, agrees}

-- pels that were coded from the start of a code, and settled these bytes
module _ (E : Engine) (K : IsEngine E) (width : ℕ) (m₀ : Page) (c₀ : E.Registers) (ps : List ℕ) (m : Page)
    (c : E.Registers) (n : ℕ) (settled : List ℕ) (s : E.stands c₀ [] ≡ E.writer.start)
    (f : Coded E width m₀ c₀ 0 ps m c n settled) where
  ended : after (pages E width) E.writer (opening (pages E width) E.writer m₀) ps
      ≡ stage_of E width m (E.stands c settled) n
  ended = ap (λ (w : E.writer.State). through E width (stage_of E width m₀ w 0) ps) (sym s) ∙ f.stage []

  -- the code is those bytes and the last, but for the very first of all
  pub end-code : band_code (pages E width) E.writer m₀ ps ≡ drop 1 (settled ++ E.last c)
  end-code = ap (λ (t : Stage (pages E width) E.writer). E.writer.code t.writer) ended ∙ K.ends c settled

  pub end-shifts : band_count (pages E width) E.writer m₀ ps ≡ shifts_of E c
  end-shifts = ap (λ (t : Stage (pages E width) E.writer). E.writer.count t.writer) ended ∙ K.count c settled

  pub end-revisits : band_revisits (pages E width) E.writer m₀ ps ≡ n
  end-revisits = ap (λ (t : Stage (pages E width) E.writer). t.revisits) ended

  pub end-model : band_model (pages E width) E.writer m₀ ps ≡ m
  end-model = ap (λ (t : Stage (pages E width) E.writer). t.model) ended

-- pels that were read from the start of a code, and how the bytes compared with it agreed
module _ (E : Engine) (K : IsEngine E) (R : Reader) (Sized : ℕ → Type 0) (C : IsCoder E.writer R Sized)
    (sized : (e : ℕ) → Sized (E.scheme.size e)) (width : ℕ) (code : List ℕ) (m₀ : Page) (c₀ : E.Registers)
    (ps : List ℕ) (m : Page) (c : E.Registers) (n at : ℕ) (good : Bool) (r : R.State)
    (s : E.stands c₀ [] ≡ E.writer.start)
    (f : Followed E R width code m₀ c₀ 0 0 true (R.start code) ps m c n at good r) where
  abbrev all : List ℕ
  all = f.settled ++ E.last c

  some : 1 ≤ length all
  some = omega (arith, length-append f.settled (E.last c), K.some c)

  code_is : band_code (pages E width) E.writer m₀ ps ≡ drop 1 all
  code_is = end-code E K width m₀ c₀ ps m c n f.settled s f.coded

  -- what was compared, in all
  compared : (k : ℕ) → k ≡ at + length (E.last c)
      → ((good && matches code at (E.last c)) && eqb (k - 1) (length code))
      ≡ (matches code 0 all && eqb (length all - 1) (length code))
  compared k h =
      ap₂ (λ (x : Bool) (j : ℕ). x && eqb (j - 1) (length code))
      (ap₂ (λ (x : Bool) (j : ℕ). x && matches code j (E.last c)) f.matched f.place
      ∙ sym (matches-append code 0 f.settled (E.last c)))
      (h ∙ ap (λ (j : ℕ). j + length (E.last c)) (f.place ∙ zero-add (length f.settled))
      ∙ sym (length-append f.settled (E.last c)))

  -- every byte agreed, and there are as many as the code has: the pels were written so
  pub verdict-good : (k : ℕ) → k ≡ at + length (E.last c)
      → ((good && matches code at (E.last c)) && eqb (k - 1) (length code)) ≡ true
      → band_code (pages E width) E.writer m₀ ps ≡ code
  verdict-good k h t = code_is ∙ agreed code all some (sym (compared k h) ∙ t)

  -- the pels are those that the reader reads
  pels-are : reads E R width (length ps) m₀ (R.start code) ≡ ps
  unfolding read_pels
  pels-are = ap (λ (j : ℕ). reads E R width j m₀ (R.start code)) (sym (add-zero (length ps))) ∙ f.read 0
      ∙ append-nil ps

  fits : (q : Page) → Sized (size E.scheme width q)
  unfolding size
  fits q = sized _

  bit : (q : Page) → sense E.scheme width q ≤ 1
  unfolding sense
  bit q = omega arith

  -- else no pels of that number were
  pub verdict-damaged : (k : ℕ) → k ≡ at + length (E.last c)
      → ((good && matches code at (E.last c)) && eqb (k - 1) (length code)) ≡ false
      → (qs : List ℕ) → AllPels qs → length qs ≡ length ps → band_code (pages E width) E.writer m₀ qs ≡ code → ⊥
  verdict-damaged k h t qs a l e =
      let g : ps ≡ qs = sym pels-are ∙ written_read (pages E width) E.writer R Sized C fits bit m₀ (length ps) code
      qs a l e in
      no_way (sym (agrees code all some (sym code_is ∙ ap (band_code (pages E width) E.writer m₀) g ∙ e))
      ∙ sym (compared k h) ∙ t)
