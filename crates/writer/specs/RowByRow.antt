-- A band as the writer meets it, row after row. Assumes nothing.
use Rattle.std.specs.Prelude.{ℕ, List, [], ◌≡◌}
use Rattle.engine.specs.Coded.{row_page, Stored}
use Rattle.octets.specs.declared.Coder.{Coder}
use Rattle.octets.specs.Octets.{start}
use Rattle.octets.specs.Lift.{lift}
use Rattle.template.specs.Pels.{pels_to, band_to}
use Rattle.band.specs.Band.{page_at}
use Rattle.row.specs.QEngine.{q_engine}

-- y rows are written, from the start of a code; `above` is the last of them
pub record BandAt (width : ℕ) (last band t₀ out₀ above t : List ℕ) (c : Coder) (out : List ℕ) (at n y : ℕ) :
    Type 0 where
  pub from : Coder
  pub first : lift from [] ≡ start
  pub done : Stored q_engine width (page_at width t₀ last) from 0 out₀ 0 (band_to width band y)
      (row_page t (pels_to above width)) c n out at
