-- How many pels of a band are revisited, for every table, last row and pels. Assumes nothing.
use mathlib.Core.Path.{◌≡◌, sym, ap₂, ◌∙◌}
use Prim.Native.Nat.{ℕ, zero, suc, ◌+◌, ◌*◌, ◌≤◌}
use native.Mathlib.Nat.{zero-mul, suc-mul}
use native.Mathlib.Omega.{arith}
use mathlib.Core.List.{List}
use lib.ListN.{length, length-append}
use Rattle.coder.specs.Writing.{opening}
use Rattle.coder.proofs.Revisits.{Counts, revisits-pels, revisits-shifts}
use Rattle.interval.specs.Interval.{decision}
use Rattle.octets.proofs.Loops.{pel-counts}
use Rattle.template.specs.Pels.{pels_to, row_at, band_to}
use Rattle.template.proofs.Sliding.{length-pels}
use Rattle.band.specs.Band.{q_writer, q_page, page_at, written}

-- a band has rows × width pels
pub band-size : (width : ℕ) (band : List ℕ) (n : ℕ) → length (band_to width band n) ≡ n * width
unfolding band_to
band-size width band zero = sym (zero-mul width)
band-size width band (suc n) =
    length-append (band_to width band n) (pels_to (row_at width band n) width) ∙ ap₂ (λ (j k : ℕ). j + k)
    (band-size width band n) (length-pels (row_at width band n) width) ∙ sym (suc-mul n width)

-- the Q-coder counts its shifts
pub q-counts : Counts q_writer
q-counts q e w = pel-counts (decision q e) w

module _ (width rows : ℕ) (table last band : List ℕ) where
  -- the pels revisited are at most S
  pub at_most_shifts : (written width rows table last band).revisits ≤ (written width rows table last band).shifts
  unfolding written
  at_most_shifts =
      revisits-shifts (q_page width) q_writer q-counts (band_to width band rows)
      (opening (q_page width) q_writer (page_at width table last)) (omega arith)

  -- the pels revisited are at most the band's pels
  pub at_most_pels : (written width rows table last band).revisits ≤ rows * width
  unfolding written
  at_most_pels =
      omega (
        arith,
        revisits-pels (q_page width) q_writer (band_to width band rows) (opening (q_page width) q_writer
            (page_at width table last)),
        band-size width band rows,
      )
