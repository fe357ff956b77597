-- The width is tested first, since the row's test asks for a lawful one. Assumes nothing.
use mathlib.Core.Path.{sym, ◌∙◌}
use native.Mathlib.Omega.{arith}
use Rattle.limits.specs.Limits.{max_width}
use Rattle.parts.specs.Parts.{as_page}
use Rattle.desk.proofs.OpenPages.{within_both}
use Rattle.lawful.proofs.Each.{open-stops, open_made}
use Rattle.lawful.proofs.open_right.Goals as goal

pub returns-then-not-in_range : goal.returns-then-not-in_range
returns-then-not-in_range c = let a = c.args in
    open-stops (as_page a.p a.table.now a.last.now) (sym c.in_range.ensures ∙ c.if-not-in_range.true)

pub no_stray-requires : goal.no_stray-requires
no_stray-requires c = let w = within_both 1 c.args.p.width max_width (sym
    c.in_range.ensures ∙ c.if-not-in_range.false) in
    let n = c.requires in (w.0, w.1, omega arith)

pub returns : goal.returns
returns c = let a = c.args in
    open_made (as_page a.p a.table.now a.last.now) _ _ _
    (sym c.in_range.ensures ∙ c.if-not-in_range.false) c.lawful_key.ensures
    c.is_low.ensures c.no_stray.ensures
