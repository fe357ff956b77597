-- The rows that were passed are padded; one that is not decides. Assumes nothing.
use mathlib.Core.Path.{◌≡◌, refl, sym, ◌∙◌}
use Rattle.template.specs.Pels.{row_at, row_padded, band_padded}
use Rattle.template.proofs.Padding.{padded-next, padded-not}
use Rattle.template.proofs.Band.is_padded.Goals as goal
use Rattle.template.proofs.Band.is_padded.Goals.{After-is_padded}

-- what is known of the row of a turn
judged : (c : After-is_padded) → let band = c.args.self in
    row_padded band.width (row_at band.width band.pels.now c.loop-y.y) ≡ c.is_padded.result
judged c = rw (← c.row.ensures.0, ← c.row.ensures.1) (sym c.is_padded.ensures)

pub loop-y-init : goal.loop-y-init
unfolding band_padded
loop-y-init c = refl

pub returns-then-not-is_padded : goal.returns-then-not-is_padded
returns-then-not-is_padded c = let band = c.args.self in
    sym (padded-not band.width band.pels.now c.loop-y.y band.rows c.loop-y-test.true
    (judged (goal.at.returns-then-not-is_padded c).After-is_padded ∙ c.if-not-is_padded.true))

pub loop-y-preserved : goal.loop-y-preserved
loop-y-preserved c = let band = c.args.self in
    padded-next band.width band.pels.now c.loop-y.y c.loop-y.invariant
    (judged (goal.at.loop-y-preserved c).After-is_padded ∙ c.if-not-is_padded.false)
