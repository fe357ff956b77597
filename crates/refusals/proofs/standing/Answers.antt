-- The first three tests, then the search. Assumes nothing.
use mathlib.Core.Path.{sym, ◌∙◌}
use Rattle.std.proofs.lemmas.Result.{err_from_is_err_and}
use Rattle.desk.specs.Lawful.{lawful_key}
use Rattle.refusals.proofs.StandingOn.{on_some, on_none, stopped, went_on}
use Rattle.refusals.proofs.standing.Goals as goal

pub returns-in_err-early : goal.returns-in_err-early
returns-in_err-early c =
    let a = c.args in
    let p = err_from_is_err_and c.from_residual.result c.from_residual.ensures.1 in
    rw (p.1, p.2) (stopped a.good (lawful_key a.key) a.sized _ _ c.in_err-early.ensures, tt)

pub returns-in_default : goal.returns-in_default
returns-in_default c =
    let a = c.args in (
      on_none _ (sym c.find.ensures.0 ∙ c.in_default.is)
          ∙ went_on a.good (lawful_key a.key) a.sized _ _ c.in_ok-early.ensures,
      tt,
    )

pub returns : goal.returns
returns c =
    let a = c.args in (
      on_some _ c.in-Some.i (sym c.find.ensures.0 ∙ c.in-Some.is)
          ∙ went_on a.good (lawful_key a.key) a.sized _ _ c.in_ok-early.ensures,
      rw c.in-Some.is at c.find.ensures.1,
    )
