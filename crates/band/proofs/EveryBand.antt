-- What holds of every written band, for every table, last row and pels: its bytes, its value, its length. Assumes
-- nothing.
use mathlib.Core.Path.{◌≡◌, refl, sym, ap, subst, subst₂}
use mathlib.Core.Logic.{◌≢◌}
use Prim.Native.Nat.{ℕ, ◌+◌, ◌*◌, ◌^◌}
use mathlib.Core.List.{List, [], ◌∷◌}
use Rattle.coder.specs.Writing.{Stage, step, after}
use Rattle.coder.specs.Page.{size}
use Rattle.estimate.proofs.LawfulEntries.{row_sized}
use Rattle.interval.specs.Interval.{whole}
use Rattle.octets.specs.Octets.{Registers, run}
use Rattle.octets.proofs.Fit.{AllSized}
use Rattle.exact.specs.Value.{LawfulBytes, Made, LengthLaw, last_of, value, places, exact}
use Rattle.exact.proofs.Codes.{coded, value_written, length-law}
use Rattle.exact.proofs.Codes as exactly
use Rattle.exact.proofs.Follows.{one-made, last-not-ff}
use Rattle.template.specs.Pels.{band_to}
use Rattle.band.specs.Band.{q_writer, q_page, written}
use Rattle.band.specs.Decisions.{decisions, opened, decided}

module _ (width : ℕ) where
  all-sized : (ps : List ℕ) (s : Stage (q_page width) q_writer) → AllSized (decisions width s ps)
  unfolding decisions size
  all-sized [] s = tt
  all-sized (p ∷ ps) s = (
    record { some = (row_sized _).some; small = (row_sized _).small },
    all-sized ps
        (step (q_page width) q_writer s p),
  )

  run_is : (ps : List ℕ) (s : Stage (q_page width) q_writer) → (after (q_page width) q_writer s ps).writer ≡ run
      (decisions width s ps) s.writer
  unfolding decisions run after
  run_is [] s = refl
  run_is (p ∷ ps) s = run_is ps (step (q_page width) q_writer s p)

module _ (width rows : ℕ) (table last band : List ℕ) where
  sizes : AllSized (decided width rows table last band)
  sizes = all-sized width (band_to width band rows) (opened width rows table last band)

  code_is : exactly.written (decided width rows table last band) ≡ (written width rows table last band).code
  unfolding written exactly.written
  code_is = ap (λ (w : Registers). Rattle.octets.specs.Octets.code w)
      (sym (run_is width (band_to width band rows) (opened width rows table last band)))

  shifts-is : exactly.counted (decided width rows table last band) ≡ (written width rows table last band).shifts
  unfolding written exactly.counted
  shifts-is = ap (λ (w : Registers). w.interval.count)
      (sym (run_is width (band_to width band rows) (opened width rows table last band)))

  -- every byte is below 256, and a byte after FF is at most 8F
  pub code-lawful : LawfulBytes 0 (written width rows table last band).code
  code-lawful = subst (LawfulBytes 0) code_is (coded (decided width rows table last band) sizes).lawful

  -- the value of the code, where a byte after FF has seven places and any other eight, is the final lower end, exactly
  pub code-value : value (written width rows table last band).code * 2 ^ (12 + (written width rows table last
      band).shifts)
      ≡ (exact (decided width rows table last band) whole).low * 2 ^ places 0 (written width rows table last band).code
  code-value = subst₂ (λ (c : List ℕ) (s : ℕ). value c * 2 ^ (12 + s) ≡ (exact (decided width rows table last band)
      whole).low * 2 ^ places 0 c) code_is shifts-is (value_written (decided width rows table last band) sizes)

  -- the bytes that were made cover all 12 + S bits, and without the last of them they would not; after a last FF a
  -- byte 00 follows, and nothing else does
  pub code-covers : (made : List ℕ)
      × Made (written width rows table last band).shifts (written width rows table last band).code made
  code-covers =
      let c = coded (decided width rows table last band) sizes in
      subst₂ (λ (l : List ℕ) (s : ℕ). (made : List ℕ) × Made s l made) code_is shifts-is (c.made, c.is)

  -- what a band can cost, given S
  pub code-length : (made : List ℕ)
      → Made (written width rows table last band).shifts (written width rows table last band).code made
      → LengthLaw (written width rows table last band).shifts (written width rows table last band).code made
  code-length made m = length-law _ _ made m code-lawful

  -- S tells which bytes were made: a 00 that the bits needed and one that follows an FF are not confused
  pub code_one : (xs ys : List ℕ)
      → Made (written width rows table last band).shifts (written width rows table last band).code xs
      → Made (written width rows table last band).shifts (written width rows table last band).code ys → xs ≡ ys
  code_one = one-made _ _

  -- no code ends in FF
  pub code-last : last_of 0 (written width rows table last band).code ≢ 255
  code-last = last-not-ff _ _ code-covers.0 code-covers.1
