-- An unused page is put. Assumes nothing.
use mathlib.Core.Path.{ap₂}
use lib.ListN.{replicate}
use Rattle.limits.specs.Limits.{last_bytes}
use Rattle.estimate.specs.declared.Table.{Table}
use Rattle.parts.specs.declared.PageLine.{PageLine}
use Rattle.band.specs.Band.{white}
use Rattle.parts.specs.Parts.{as_page}
use Rattle.desk.specs.Places.{unused_page}
use Rattle.parts.proofs.EmptyDesk.{unused-line}
use Rattle.parts.proofs.Puts.{page-as}
use Rattle.parts.proofs.Parts.clear_page.Goals as goal

pub returns : goal.returns
unfolding unused_page white
returns c = page-as (ap₂ (λ (l : PageLine) (t : Table). as_page l t.entries (replicate last_bytes 0))
    (unused-line c.default.result c.default.ensures)
    c.zero_table.ensures) c.put_page.ensures
