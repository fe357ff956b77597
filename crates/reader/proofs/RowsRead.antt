-- A band read: the start, and a row more. Assumes nothing.
use mathlib.Core.Path.{◌≡◌, refl, sym, ap, ap₂, ◌∙◌, subst}
use Prim.Native.Nat.{ℕ, suc, ◌+◌, ◌-◌, ◌*◌, ◌≤◌, ◌<◌}
use native.Mathlib.Nat.{zero-mul, suc-mul, mul-le-mul_right, mul-le-mul_left}
use native.Mathlib.Decide.{dec_lt}
use native.Mathlib.Omega.{arith}
use mathlib.Core.Bool.{Bool, true, ◌&&◌}
use mathlib.Core.List.{List, [], ◌++◌}
use lib.ListN.{get_or, length, take, drop, replicate, length-append, get_or-append}
use lib.Seq.{paste, take_all, take_at, drop-append-add, drop-drop, get_or-append-add}
use Rattle.limits.specs.Limits.{max_width, last_bytes}
use Rattle.engine.specs.Coded.{row_page}
use Rattle.engine.specs.Followed.{Followed}
use Rattle.engine.proofs.Coded.{coded-revisits}
use Rattle.engine.proofs.Followed.{followed-none, followed-append}
use Rattle.estimate.specs.declared.Table.{Table}
use Rattle.estimate.specs.Estimate.{LawfulTable}
use Rattle.octets.specs.declared.Coder.{Coder}
use Rattle.octets.specs.Octets.{Registers, start}
use Rattle.octets.specs.Fit.{Ready}
use Rattle.octets.proofs.Fit.{ready-start}
use Rattle.octets.specs.Lift.{lift}
use Rattle.exact.specs.Sight.{Sight, opened}
use Rattle.template.specs.Pels.{row_bytes, pels_to, band_to, band_padded}
use Rattle.band.specs.Band.{IsBand, page_at}
use Rattle.band.proofs.Revisits.{band-size}
use Rattle.row.specs.QEngine.{q_engine}
use Rattle.row.proofs.QEngine.{q_is_engine}
use Rattle.sight.specs.declared.View.{View}
use Rattle.sight.specs.Views.{sight_of}
use Rattle.unique.specs.QCoder.{q_reader}
use Rattle.reader.specs.declared.Progress.{Progress}
use Rattle.reader.specs.declared.Line.{Line}
use Rattle.reader.specs.RowRead.{seen, InSight, LineRead}
use Rattle.reader.specs.Reads.{BandRead}
use Rattle.reader.proofs.ReadBand.{pels-grow, padded-grow, last-grow, front-size, front-pels, front-padded}
use Rattle.reader.proofs.ReadBand.{front-octets, row_is}

pub reads-start : (width : ℕ) (last code : List ℕ) (table : Table) (out₀ : List ℕ) (c : Coder) (v : View)
    → lift c [] ≡ start → LawfulTable table.entries → sight_of v 4096 code ≡ opened code → InSight code v
    → BandRead width last code table.entries out₀ last
    (record { coder = c; table = table; at = 0; revisits = 0; good = true; view = v }) out₀ 0
unfolding band_to band_padded
reads-start width last code table out₀ c v e l o i =
    let wide : c.interval.width ≡ 4096 = ap (λ (k : Registers). k.interval.width) e in
    record {
      band = [];
      is_band = record { size = sym (zero-mul (row_bytes width)); padded = refl; octets = λ i. omega arith };
      front = ap (λ (k : ℕ). drop k out₀) (sym (zero-mul (row_bytes width)));
      from = c;
      first = e;
      done = subst (λ (r : Sight). Followed q_engine q_reader width code (page_at width table.entries last) c 0 0 true
          (opened code) [] (page_at width table.entries last) c 0 0 true r)
          (sym (ap (λ (k : ℕ). sight_of v k code) wide ∙ o))
          (followed-none q_engine q_is_engine q_reader width code (page_at width table.entries last) c 0 0 true
          (opened code) l (subst Ready (sym e) ready-start));
      sight = i;
      last_is = λ h. absurd (none h);
    }
  where
    none : 1 ≤ 0 → ⊥
    none h = omega arith

-- the numbers in the loop over the rows
pub reads-few : (width : ℕ) (last code t₀ out₀ above : List ℕ) (r : Progress) (out : List ℕ) (y : ℕ)
    → BandRead width last code t₀ out₀ above r out y → width ≤ max_width
    → (r.coder.interval.count ≤ 12 * max_width * y) × (r.at ≤ 2 * max_width * y)
    × (r.revisits ≤ r.coder.interval.count)
reads-few width last code t₀ out₀ above r out y b h =
    let k : y * width ≤ y * max_width = mul-le-mul_left y h in
    let z : b.from.interval.count ≡ 0 = ap (λ (w : Registers). w.interval.count) b.first in
    let l : length (band_to width b.band y) ≡ y * width = band-size width b.band y in (
      omega (arith, b.done.coded.count),
      omega (arith, b.done.place, b.done.coded.few),
      coded-revisits q_engine q_is_engine width _ b.from 0 _ _ r.coder r.revisits _ b.done.coded
          (omega arith),
    )

-- a row more
module _ (width : ℕ) (last code t₀ out₀ above : List ℕ) (s : Progress) (out : List ℕ) (y : ℕ)
    (b : BandRead width last code t₀ out₀ above s out y) (some : 1 ≤ width) (narrow : width ≤ max_width) (l : Line)
    (f : LineRead width (pels_to above width) code s l) where
  abbrev bytes : ℕ
  bytes = row_bytes width

  abbrev row : List ℕ
  row = take bytes l.row

  row-size : length row ≡ bytes
  row-size = front-size width l.row f.packed some narrow

  grown : band_to width b.band y ++ pels_to l.row width ≡ band_to width (b.band ++ row) (suc y)
  grown = ap (λ (k : List ℕ). band_to width b.band y ++ k) (sym (front-pels width l.row f.packed some narrow))
      ∙ sym (pels-grow width y b.band row b.is_band.size row-size)

  next-done : Followed q_engine q_reader width code (page_at width t₀ last) b.from 0 0 true (opened code)
      (band_to width (b.band ++ row) (suc y)) (row_page l.reading.table.entries (pels_to l.row width))
      l.reading.coder l.reading.revisits l.reading.at l.reading.good (seen l.reading code)
  next-done =
      subst (λ (ps : List ℕ). Followed q_engine q_reader width code (page_at width t₀ last) b.from 0 0 true
      (opened code) ps (row_page l.reading.table.entries (pels_to l.row width)) l.reading.coder
      l.reading.revisits l.reading.at l.reading.good (seen l.reading code)) grown
      (followed-append q_engine q_is_engine q_reader width code _ b.from 0 0 true (opened code)
      (band_to width b.band y) _ s.coder s.revisits s.at s.good (seen s code) (pels_to l.row width) _ _
      _ _ _ _ b.done f.done)

  octets-next : (i : ℕ) → get_or (b.band ++ row) i 0 ≤ 255
  octets-next i = go (dec_lt i (length b.band))
    where
      go : Dec (i < length b.band) → get_or (b.band ++ row) i 0 ≤ 255
      go (yes h) = rw (get_or-append b.band row 0 i h) (b.is_band.octets i)
      go (no h) =
          let e : i ≡ length b.band + (i - length b.band) = omega arith in
          rw (e, get_or-append-add b.band row (i - length b.band) 0) (front-octets width l.row f.packed some
          narrow (i - length b.band))

  is-band : IsBand width (suc y) (b.band ++ row)
  is-band =
      record {
        size = length-append b.band row ∙ ap₂ (λ (j k : ℕ). j + k) b.is_band.size row-size
            ∙ sym (suc-mul y bytes);
        padded = padded-grow width y b.band row b.is_band.size row-size ∙ ap₂ (λ (j k : Bool). j && k)
            b.is_band.padded (front-padded width l.row f.packed some narrow);
        octets = octets-next;
      }

  pub reads-again : (out' : List ℕ) → out' ≡ paste out (y * bytes) row (length row)
      → BandRead width last code t₀ out₀ l.row l.reading out' (suc y)
  reads-again out' o =
      record {
        band = b.band ++ row;
        is_band = is-band;
        front =
            o ∙ ap (λ (k : ℕ). paste out (y * bytes) row k) row-size
            ∙ ap (λ (k : List ℕ). take (y * bytes) out ++ k ++ drop (y * bytes + bytes) out)
            (take_all bytes row (omega (arith, row-size)))
            ∙ ap (λ (k : List ℕ). paste k (y * bytes) l.row bytes) b.front
            ∙ ap₂ (λ (j k : List ℕ). j ++ row ++ k) (take_at b.band (drop (y * bytes) out₀) (y * bytes)
            b.is_band.size)
            (ap (λ (k : ℕ). drop (k + bytes) (b.band ++ drop (y * bytes) out₀)) (sym b.is_band.size)
            ∙ drop-append-add b.band (drop (y * bytes) out₀) bytes ∙ drop-drop bytes (y * bytes) out₀
            ∙ ap (λ (k : ℕ). drop k out₀) (sym (suc-mul y bytes)));
        from = b.from;
        first = b.first;
        done = next-done;
        sight = f.sight;
        last_is = λ h. row_is width l.row f.packed some narrow
            ∙ ap (λ (k : List ℕ). k ++ replicate (last_bytes - bytes) 0)
            (sym (last-grow width y b.band row b.is_band.size row-size 0));
      }

-- there is room for the next row
pub next-room : (y rows bytes len : ℕ) → y < rows → rows * bytes ≤ len → y * bytes + bytes ≤ len
next-room y rows bytes len h k = omega (arith, suc-mul y bytes, mul-le-mul_right bytes h)
