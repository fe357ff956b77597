-- The page's direction, where there is a page. Assumes nothing.
use mathlib.Core.Path.{sym, ◌∙◌}
use Rattle.std.proofs.lemmas.Result.{err_from_is_err_and}
use Rattle.desk.specs.Places.{state_for}
use Rattle.refusals.proofs.StandingOn.{away-still, other_way, right-way}
use Rattle.refusals.proofs.standing_to.Goals as goal

pub returns-in_err-i : goal.returns-in_err-i
returns-in_err-i c =
    let a = c.args in
    let p = err_from_is_err_and c.from_residual.result c.from_residual.ensures.1 in
    rw (p.1, p.2) (away-still a.pages.now (state_for a.direction) _ _ c.in_err-i.ensures.0, tt)

pub returns-then-pages-i : goal.returns-then-pages-i
returns-then-pages-i c =
    let a = c.args in (
      other_way a.pages.now (state_for a.direction) _ _ c.in_ok-i.ensures.0
          (λ e. c.if-pages-i.true (e ∙ sym c.from.ensures)),
      tt,
    )

pub returns : goal.returns
returns c =
    let a = c.args in (
      right-way a.pages.now (state_for a.direction) _ _ c.in_ok-i.ensures.0 (c.if-pages-i.false ∙ c.from.ensures),
      c.in_ok-i.ensures.1,
    )
