-- A band read: what holds after y rows. Assumes nothing.
use Rattle.std.specs.Prelude.{◌≡◌, ℕ, ◌-◌, ◌*◌, ◌≤◌, true, List, [], ◌++◌, drop, replicate}
use Rattle.limits.specs.Limits.{last_bytes}
use Rattle.engine.specs.Coded.{row_page}
use Rattle.engine.specs.Followed.{Followed}
use Rattle.octets.specs.declared.Coder.{Coder}
use Rattle.octets.specs.Octets.{start}
use Rattle.octets.specs.Lift.{lift}
use Rattle.exact.specs.Sight.{opened}
use Rattle.template.specs.Pels.{row_bytes, pels_to, row_at, band_to}
use Rattle.band.specs.Band.{IsBand, page_at}
use Rattle.row.specs.QEngine.{q_engine}
use Rattle.unique.specs.QCoder.{q_reader}
use Rattle.reader.specs.declared.Progress.{Progress}
use Rattle.reader.specs.RowRead.{seen, InSight}

-- y rows are read, from the start of a code; `above` is the last of them, in its room
pub record BandRead (width : ℕ) (last code t₀ out₀ above : List ℕ) (r : Progress) (out : List ℕ) (y : ℕ) :
    Type 0 where
  pub band : List ℕ
  pub is_band : IsBand width y band
  pub front : out ≡ band ++ drop (y * row_bytes width) out₀
  pub from : Coder
  pub first : lift from [] ≡ start
  pub done : Followed q_engine q_reader width code (page_at width t₀ last) from 0 0 true (opened code)
      (band_to width band y) (row_page r.table.entries (pels_to above width)) r.coder r.revisits r.at
      r.good (seen r code)
  pub sight : InSight code r.view
  pub last_is : 1 ≤ y → above ≡ row_at width band (y - 1) ++ replicate (last_bytes - row_bytes width) 0
