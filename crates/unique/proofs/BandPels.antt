-- The pels of a band: each 0 or 1, and told by its code. Assumes nothing.
use mathlib.Core.Path.{◌≡◌, sym, ap, ◌∙◌}
use Prim.Native.Nat.{ℕ, zero, suc, ◌*◌, ◌≤◌}
use native.Mathlib.Omega.{arith}
use mathlib.Core.List.{List, [], ◌∷◌, ◌++◌}
use Rattle.coder.proofs.Writing.{AllPels}
use Rattle.coder.specs.Writing.{band_code}
use Rattle.coder.specs.Reading.{read_pels}
use Rattle.coder.proofs.Reading.{written_read, no-two-bands}
use Rattle.coder.specs.Page.{Page, size, sense, entry_at}
use Rattle.estimate.proofs.LawfulEntries.{Sized, row_sized}
use Rattle.exact.specs.Sight.{opened}
use Rattle.template.specs.Pels.{pels_to, pel_at, row_at, band_to}
use Rattle.template.proofs.Sliding.{pel-bit}
use Rattle.band.specs.Band.{q_scheme, q_writer, q_page, page_at, written}
use Rattle.band.proofs.Revisits.{band-size}
use Rattle.unique.specs.QCoder.{q_reader}
use Rattle.unique.proofs.QCoder.{q_coder}

-- ---- the pels of a band
pels-append : (ps qs : List ℕ) → AllPels ps → AllPels qs → AllPels (ps ++ qs)
pels-append [] qs a b = b
pels-append (p ∷ ps) qs a b = (a.0, pels-append ps qs a.1 b)

row-pels : (row : List ℕ) (n : ℕ) → AllPels (pels_to row n)
unfolding pels_to
row-pels row zero = tt
row-pels row (suc n) = pels-append (pels_to row n) (pel_at row n ∷ []) (row-pels row n) (pel-bit row n, tt)

pub band-pels : (width : ℕ) (band : List ℕ) (n : ℕ) → AllPels (band_to width band n)
unfolding band_to
band-pels width band zero = tt
band-pels width band (suc n) = pels-append (band_to width band n) (pels_to (row_at width band n) width)
    (band-pels width band n) (row-pels (row_at width band n) width)

-- ---- any band that was written as the code is the one that is read
module _ (width : ℕ) where
  sized : (m : Page) → Sized (size q_scheme width m)
  unfolding size
  sized m = row_sized (entry_at q_scheme width m)

  bit : (m : Page) → sense q_scheme width m ≤ 1
  unfolding sense
  bit m = omega arith

  pub reads-written : (rows : ℕ) (table last code band : List ℕ) → (written width rows table last band).code ≡ code
      → read_pels (q_page width) q_reader (rows * width) (page_at width table last) (opened code) ≡ band_to width band rows
  unfolding written
  reads-written rows table last code band e =
      written_read (q_page width) q_writer q_reader Sized q_coder sized bit (page_at width table last) (rows * width) code
      (band_to width band rows) (band-pels width band rows) (band-size width band rows) e

  -- two bands of one size with one code have the same pels
  pub same-pels : (rows : ℕ) (table last a b : List ℕ) → (written width rows table last a).code ≡ (written width rows
      table last b).code → band_to width a rows ≡ band_to width b rows
  unfolding written
  same-pels rows table last a b e =
      no-two-bands (q_page width) q_writer q_reader Sized q_coder sized bit (page_at width table last) (band_to width a rows)
      (band_to width b rows) (band-pels width a rows) (band-pels width b rows)
      (band-size width a rows ∙ sym (band-size width b rows)) e

  -- and a band's code, S and table are those of its pels
  pub code-of-pels : (rows : ℕ) (table last a b : List ℕ) → band_to width a rows ≡ band_to width b rows
      → (written width rows table last a).code ≡ (written width rows table last b).code
  unfolding written
  code-of-pels rows table last a b e = ap (band_code (q_page width) q_writer (page_at width table last)) e
