-- A band as the writer meets it, row after row, and its end. Assumes nothing.
use mathlib.Core.Path.{◌≡◌, refl, sym, ap, ap₂, ◌∙◌, subst, subst₂}
use Prim.Native.Nat.{ℕ, suc, ◌+◌, ◌-◌, ◌*◌, ◌≤◌}
use native.Mathlib.Nat.{zero-add, mul-le-mul_left}
use native.Mathlib.Numerals.{add-one}
use native.Mathlib.Omega.{arith}
use mathlib.Core.Bool.{true, false, ◌&&◌}
use mathlib.Core.List.{List, [], ◌++◌}
use lib.ListN.{length, drop, length-append, length-drop}
use lib.Dec.{leb}
use Rattle.ground.proofs.Bools.{both}
use Rattle.std.specs.Prelude.{Some, None}
use Rattle.coder.specs.Page.{Page}
use borrow.Author.Tests.{leb-true}
use Rattle.engine.specs.Coded.{row_page, Stored}
use Rattle.engine.proofs.Coded.{coded-revisits, stored-none, stored-append, stored-length}
use Rattle.engine.proofs.Verdict as end
use Rattle.estimate.specs.Estimate.{LawfulTable}
use Rattle.octets.specs.declared.Coder.{Coder}
use Rattle.octets.specs.Octets.{Registers, start, finish, ended}
use Rattle.octets.specs.Fit.{Ready}
use Rattle.octets.specs.Lift.{lift}
use Rattle.octets.proofs.Fit.{ready-start}
use Rattle.store.specs.Store.{stores, in_front, cleared}
use Rattle.store.proofs.Store.{stores-append, stores-fit, length-stores}
use Rattle.template.specs.Pels.{pels_to, row_at, band_to}
use Rattle.row.specs.declared.Run.{Run}
use Rattle.row.specs.QEngine.{q_engine}
use Rattle.row.specs.WrittenRow.{RowDone}
use Rattle.row.proofs.QEngine.{q_is_engine}
use Rattle.limits.specs.Limits.{max_width, max_code}
use Rattle.band.specs.Band.{page_at, Written, written, last_row, has_room}
use Rattle.band.proofs.Revisits.{band-size}
use Rattle.writer.specs.Wrote.{wrote_answer, wrote_out}
use Rattle.writer.specs.RowByRow.{BandAt}

-- ---- rows
module _ (width : ℕ) (last band t₀ out₀ : List ℕ) where
  band-start : (c : Coder) → lift c [] ≡ start → LawfulTable t₀ → BandAt width last band t₀ out₀ last t₀ c out₀ 0 0 0
  unfolding band_to
  band-start c e l =
      record {
        from = c;
        first = e;
        done = stored-none q_engine q_is_engine width (page_at width t₀ last) c 0 out₀ 0 l
            (subst Ready (sym e) ready-start);
      }

  -- one row more
  pub band-again : (above t : List ℕ) (c : Coder) (out : List ℕ) (at n y : ℕ) (row t' : List ℕ) (c' : Coder)
      (out' : List ℕ) (at' n' : ℕ) → BandAt width last band t₀ out₀ above t c out at n y → row ≡ row_at width band y
      → RowDone width (pels_to above width) row t c out at n t' c' out' at' n'
      → BandAt width last band t₀ out₀ row t' c' out' at' n' (suc y)
  unfolding band_to
  band-again above t c out at n y row t' c' out' at' n' b e r =
      record {
        from = b.from;
        first = b.first;
        done = subst (λ (l : List ℕ). Stored q_engine width (page_at width t₀ last) b.from 0 out₀ 0
            (band_to width band y ++ pels_to l width) (row_page t' (pels_to row width)) c' n' out' at') e
            (stored-append q_engine q_is_engine width _ b.from 0 out₀ 0 (band_to width band y) _ c n out at
            (pels_to row width) _ c' n' out' at' b.done r);
      }

-- the numbers in the loop over the rows
module _ (width : ℕ) (last band t₀ out₀ above t : List ℕ) (c : Coder) (out : List ℕ) (at n y : ℕ)
    (b : BandAt width last band t₀ out₀ above t c out at n y) where
  pub band-length : length out ≡ length out₀
  band-length = stored-length q_engine q_is_engine width _ b.from 0 out₀ 0 _ _ c n out at b.done

  pub band-few : width ≤ max_width → (c.interval.count ≤ 12 * max_width * y) × (at ≤ 2 * max_width * y)
      × (n ≤ c.interval.count)
  band-few h =
      let k : y * width ≤ y * max_width = mul-le-mul_left y h in
      let z : b.from.interval.count ≡ 0 = ap (λ (w : Registers). w.interval.count) b.first in
      let l : length (band_to width band y) ≡ y * width = band-size width band y in (
        omega (arith, b.done.coded.count),
        omega (arith, b.done.place, b.done.coded.few),
        coded-revisits q_engine q_is_engine width _ b.from 0 _ _ c n _ b.done.coded (omega arith),
      )

-- ---- the end of a band
written_last : (width rows : ℕ) (t last band : List ℕ) → (written width rows t last band).last ≡ last_row width rows band
unfolding written
written_last width rows t last band = refl

module _ (width rows : ℕ) (last band t₀ out₀ above t : List ℕ) (c : Coder) (out : List ℕ) (at n : ℕ)
    (b : BandAt width last band t₀ out₀ above t c out at n rows)
    (lasts : List ℕ) (e : lasts ≡ ended (finish (lift c []))) where
  abbrev W : Written
  W = written width rows t₀ last band

  -- every byte, the zero before the code first
  abbrev all : List ℕ
  all = b.done.settled ++ lasts

  end-code : W.code ≡ drop 1 all
  unfolding written
  end-code = end.end-code q_engine q_is_engine width _ b.from _ _ c n _ b.first b.done.coded
      ∙ ap (λ (l : List ℕ). drop 1 (b.done.settled ++ l)) (sym e)

  end-shifts : W.shifts ≡ c.interval.count
  unfolding written
  end-shifts = end.end-shifts q_engine q_is_engine width _ b.from _ _ c n _ b.first b.done.coded

  end-revisits : W.revisits ≡ n
  unfolding written
  end-revisits = end.end-revisits q_engine q_is_engine width _ b.from _ _ c n _ b.first b.done.coded

  end-table : W.table ≡ t
  unfolding written
  end-table = ap (λ (m : Page). m.table)
      (end.end-model q_engine q_is_engine width _ b.from _ _ c n _ b.first b.done.coded)

  -- the last bytes are stored: n₁ in all
  module _ (out₁ : List ℕ) (n₁ : ℕ) (stored : out₁ ≡ stores out at lasts) (place : n₁ ≡ at + length lasts) where
    end-length : n₁ - 1 ≡ length W.code
    end-length = sym (ap length end-code ∙ length-drop 1 all ∙ ap (λ (k : ℕ). k - 1)
        (length-append b.done.settled lasts
        ∙ ap (λ (k : ℕ). k + length lasts) (sym (b.done.place ∙ zero-add (length b.done.settled))) ∙ sym place))

    end-stored : out₁ ≡ stores out₀ 0 all
    end-stored = stored ∙ ap₂ (λ (o : List ℕ) (k : ℕ). stores o k lasts) b.done.stored b.done.place
        ∙ stores-append out₀ 0 b.done.settled lasts

    end_same : length out₁ ≡ length out₀
    end_same = ap length end-stored ∙ length-stores out₀ 0 all

    room-is : has_room W.code out₀ ≡ (leb (n₁ - 1) (length out₁) && leb (n₁ - 1) max_code)
    unfolding has_room
    room-is = rw (end-length, end_same)

    pub with-room : (leb (n₁ - 1) (length out₁) && leb (n₁ - 1) max_code) ≡ true → (row : List ℕ)
        → row ≡ last_row width rows band
        → (Some (record {
          length = n₁ - 1;
          shifts = c.interval.count;
          revisits = n;
          table = record { entries = t };
          last = row;
        }) ≡ wrote_answer W out₀) × (out₁ ≡ wrote_out W out₀)
    unfolding wrote_answer wrote_out
    with-room h row r =
        let k : has_room W.code out₀ ≡ true = room-is ∙ h in (
          rw k (λ i. Some (record {
            length = end-length i;
            shifts = sym end-shifts i;
            revisits = sym end-revisits i;
            table = record { entries = sym end-table i };
            last = last-is r i;
          })),
          rw k (end-stored ∙ stores-fit out₀ all (subst (λ (x : ℕ). x ≤ length out₀) (end-length ∙ ap length end-code)
              (omega (arith, end_same, leb-true (n₁ - 1) (length out₁) (left-of h))))
              ∙ ap (λ (x : List ℕ). in_front x out₀) (sym end-code)),
        )
      where
        last-is : row ≡ last_row width rows band → row ≡ W.last
        last-is r = r ∙ sym (written_last width rows t₀ last band)

        left-of : (leb (n₁ - 1) (length out₁) && leb (n₁ - 1) max_code) ≡ true → leb (n₁ - 1) (length out₁) ≡ true
        left-of h = (both (leb (n₁ - 1) (length out₁)) (leb (n₁ - 1) max_code) h).0

    pub without-room : (leb (n₁ - 1) (length out₁) && leb (n₁ - 1) max_code) ≡ false
        → (None ≡ wrote_answer W out₀) × (cleared out₁ ≡ wrote_out W out₀)
    unfolding wrote_answer wrote_out cleared
    without-room h = let k : has_room W.code out₀ ≡ false = room-is ∙ h in (rw k refl, rw (k, end_same))

-- ---- the rows, one after the other
-- the first row, under the page's last
pub band-first : (width : ℕ) (last band t₀ out₀ row : List ℕ) (c : Coder) (t' : List ℕ) (c' : Coder)
    (out' : List ℕ) (at' n' : ℕ) → row ≡ row_at width band 0 → lift c [] ≡ start → LawfulTable t₀
    → RowDone width (pels_to last width) row t₀ c out₀ 0 0 t' c' out' at' n'
    → BandAt width last band t₀ out₀ (row_at width band 0) t' c' out' at' n' 1
band-first width last band t₀ out₀ row c t' c' out' at' n' is s l r =
    band-again width last band t₀ out₀ last t₀ c out₀ 0 0 0 (row_at width band 0) t' c' out' at' n'
    (band-start width last band t₀ out₀ c s l) refl
    (subst (λ (x : List ℕ). RowDone width (pels_to last width) x t₀ c out₀ 0 0 t' c' out' at' n') is r)

pub start-count : (c : Coder) → lift c [] ≡ start → c.interval.count ≡ 0
start-count c e = ap (λ (w : Registers). w.interval.count) e

-- what the rows after the first keep, whatever came before
abbrev pub RowsKeep : ℕ → List ℕ → Run → List ℕ → Run → List ℕ → ℕ → Type 0
RowsKeep width band run₀ out₀ run out y =
    (last t o : List ℕ) → BandAt width last band t o (row_at width band 0) run₀.table.entries run₀.coder out₀
    run₀.at run₀.revisits 1
    → BandAt width last band t o (row_at width band (y - 1)) run.table.entries run.coder out run.at
    run.revisits y

-- the row n is written, under the row before it
abbrev pub NextDone : ℕ → List ℕ → Run → List ℕ → Run → List ℕ → ℕ → Type 0
NextDone width band run out run' out' n =
    RowDone width (pels_to (row_at width band (n - 1)) width) (row_at width band n) run.table.entries run.coder
    out run.at run.revisits run'.table.entries run'.coder out' run'.at run'.revisits

-- one row more: k is the row that is due
pub keep-next : (width : ℕ) (band : List ℕ) (run₀ run run' : Run) (out₀ out out' : List ℕ) (y k : ℕ) → 1 ≤ y
    → RowsKeep width band run₀ out₀ run out y → NextDone width band run out run' out' k → k ≡ y
    → RowsKeep width band run₀ out₀ run' out' (y + 1)
keep-next width band run₀ run run' out₀ out out' y k j r d e last t o b =
    subst₂ (λ (n m : ℕ). BandAt width last band t o (row_at width band n) run'.table.entries run'.coder out'
    run'.at run'.revisits m) (omega arith) (sym (add-one y))
    (band-again width last band t o (row_at width band (y - 1)) run.table.entries run.coder out run.at
    run.revisits y (row_at width band y) run'.table.entries run'.coder out' run'.at run'.revisits
    (r last t o b) refl (subst (NextDone width band run out run' out') e d))
