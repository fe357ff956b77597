-- A band read to its end: it is right, or no band was written so. Assumes nothing.
use mathlib.Core.Path.{◌≡◌, refl, sym, ap, ◌∙◌, subst}
use Prim.Native.Nat.{ℕ, ◌+◌, ◌-◌, ◌*◌, ◌≤◌, ◌<◌}
use mathlib.Core.Bool.{Bool, true, false, ◌&&◌}
use mathlib.Core.Option.{some, none}
use mathlib.Core.List.{List, [], ◌++◌}
use lib.ListN.{length, drop, replicate}
use lib.Dec.{eqb}
use borrow.Author.Tests.{le-leb, lt-leb}
use Rattle.ground.proofs.Bools.{no_way}
use Rattle.coder.specs.Page.{Page}
use Rattle.engine.specs.Followed.{matches}
use Rattle.engine.proofs.Verdict.{end-shifts, end-revisits, end-model, verdict-good, verdict-damaged}
use Rattle.estimate.specs.declared.Table.{Table}
use Rattle.estimate.proofs.LawfulEntries.{Sized, row_sized}
use Rattle.octets.specs.Octets.{finish, ended}
use Rattle.octets.specs.Lift.{lift}
use Rattle.store.specs.Store.{in_front, cleared}
use Rattle.template.specs.Pels.{row_bytes, band_to}
use Rattle.band.specs.Band.{written, last_row}
use Rattle.band.proofs.Revisits.{band-size}
use Rattle.row.specs.QEngine.{q_engine}
use Rattle.row.proofs.QEngine.{q_is_engine}
use Rattle.unique.specs.QCoder.{q_reader}
use Rattle.unique.proofs.QCoder.{q_coder}
use Rattle.unique.proofs.BandPels.{band-pels}
use Rattle.std.specs.Prelude.{Ok}
use Rattle.reader.specs.declared.Progress.{Progress}
use Rattle.reader.specs.Reads.{BandRead}
use Rattle.reader.specs.Found.{rows_fit, not_read, read_answer, read_out, BandFound}

module _ (width rows : ℕ) (table : Table) (last given out₀ above : List ℕ) (r : Progress) (out : List ℕ)
    (b : BandRead width last given table.entries out₀ above r out rows)
    (lasts : List ℕ) (e : lasts ≡ ended (finish (lift r.coder [])))
    (fits : rows_fit width rows out₀ ≡ true) where
  abbrev t₀ : List ℕ
  t₀ = table.entries

  shifts-is : (written width rows t₀ last b.band).shifts ≡ r.coder.interval.count
  unfolding written
  shifts-is = end-shifts q_engine q_is_engine width _ b.from _ _ r.coder r.revisits _ b.first b.done.coded

  revisits-is : (written width rows t₀ last b.band).revisits ≡ r.revisits
  unfolding written
  revisits-is = end-revisits q_engine q_is_engine width _ b.from _ _ r.coder r.revisits _ b.first
      b.done.coded

  table_is : (written width rows t₀ last b.band).table ≡ r.table.entries
  unfolding written
  table_is = ap (λ (m : Page). m.table) (end-model q_engine q_is_engine width _ b.from _ _ r.coder r.revisits _
      b.first b.done.coded)

  last-is : 1 ≤ rows → (written width rows t₀ last b.band).last ≡ above
  unfolding written last_row
  last-is h = sym (b.last_is h)

  -- how the bytes compared, with the last of them
  abbrev Agreed : ℕ → Bool → Type 0
  Agreed n v = ((r.good && matches given r.at lasts) && eqb (n - 1) (length given)) ≡ v

  -- the band was written so
  good-code : (n : ℕ) → n ≡ r.at + length lasts → Agreed n true → (written width rows t₀ last b.band).code ≡ given
  unfolding written
  good-code n k h =
      verdict-good q_engine q_is_engine q_reader Sized q_coder row_sized width given _ b.from _ _ r.coder
      r.revisits r.at r.good _ b.first b.done n (k ∙ ap (λ (l : List ℕ). r.at + length l) e)
      (subst (λ (l : List ℕ). ((r.good && matches given r.at l) && eqb (n - 1) (length given)) ≡ true) e h)

  -- no band was
  no_code : (n : ℕ) → n ≡ r.at + length lasts → Agreed n false → (band : List ℕ)
      → (written width rows t₀ last band).code ≡ given → ⊥
  unfolding written
  no_code n k h band w =
      verdict-damaged q_engine q_is_engine q_reader Sized q_coder row_sized width given _ b.from _ _ r.coder
      r.revisits r.at r.good _ b.first b.done n (k ∙ ap (λ (l : List ℕ). r.at + length l) e)
      (subst (λ (l : List ℕ). ((r.good && matches given r.at l) && eqb (n - 1) (length given)) ≡ false) e h)
      (band_to width band rows) (band-pels width band rows)
      (band-size width band rows ∙ sym (band-size width b.band rows)) w

  module _ (n : ℕ) (count : n ≡ r.at + length lasts) (some-rows : 1 ≤ rows) where
    pub read_done : Agreed n true
        → BandFound width rows table last given out₀
        (Ok (record {
          length = rows * row_bytes width;
          shifts = r.coder.interval.count;
          revisits = r.revisits;
          table = record { entries = r.table.entries };
          last = above;
        })) out
    unfolding read_answer read_out in_front
    read_done h =
        record {
          found = some b.band;
          right = λ k. (b.is_band, good-code n count h);
          answer = rw fits
              (λ i. Ok (record {
                length = sym b.is_band.size i;
                shifts = sym shifts-is i;
                revisits = sym revisits-is i;
                table = record { entries = sym table_is i };
                last = sym (last-is some-rows) i;
              }));
          lent = rw fits (b.front ∙ ap (λ (k : ℕ). b.band ++ drop k out₀) (sym b.is_band.size));
        }

    pub read-damaged : Agreed n false
        → (after : List ℕ) → after ≡ cleared out → length out ≡ length out₀
        → BandFound width rows table last given out₀
        (not_read true) after
    unfolding read_answer read_out cleared
    read-damaged h after a l =
        record {
          found = none;
          right = λ k band is_band w. no_code n count h band w;
          answer = rw fits refl;
          lent = a ∙ ap (λ (k : ℕ). replicate k 0) l;
        }

-- no room: the code is not looked at
pub read-nothing : (width rows : ℕ) (table : Table) (last given out₀ after : List ℕ) → rows_fit width rows out₀ ≡ false
    → after ≡ cleared out₀
    → BandFound width rows table last given out₀
    (not_read false) after
unfolding read_answer read_out
read-nothing width rows table last given out₀ after f a =
    record { found = none; right = λ k. absurd (no_way (sym k ∙ f)); answer = rw f refl; lent = a }

pub fits-when : (width rows bytes' : ℕ) (out : List ℕ) → bytes' ≡ row_bytes width → rows * bytes' ≤ length out
    → rows_fit width rows out ≡ true
unfolding rows_fit
fits-when width rows bytes' out e h =
    le-leb (rows * row_bytes width) (length out) (subst (λ (k : ℕ). rows * k ≤ length out) e h)

pub fits_not : (width rows bytes' : ℕ) (out : List ℕ) → bytes' ≡ row_bytes width → length out < rows * bytes'
    → rows_fit width rows out ≡ false
unfolding rows_fit
fits_not width rows bytes' out e h =
    lt-leb (rows * row_bytes width) (length out) (subst (λ (k : ℕ). length out < rows * k) e h)

pub as-compared : (g s r : Bool) (n len : ℕ) (v : Bool) → s ≡ g → r ≡ (s && eqb n len) → r ≡ v → (g && eqb n len) ≡ v
as-compared g s r n len v e f h = ap (λ (b : Bool). b && eqb n len) (sym e) ∙ sym f ∙ h

pub counted : (at n m : ℕ) → m ≡ n → at + n ≡ at + m
counted at n m e = ap (λ (k : ℕ). at + k) (sym e)
