-- The key's page among the lines is the desk's. Assumes nothing.
use mathlib.Core.Path.{sym, ap₂, subst, ◌∙◌}
use Prim.Native.Nat.{ℕ}
use mathlib.Core.Bool.{Bool}
use Rattle.desk.specs.Places.{Found}
use Rattle.desk.specs.Lawful.{lawful_key}
use Rattle.parts.specs.declared.Sought.TheVariants.{Used}
use Rattle.parts.proofs.Lines.{find-pages}
use Rattle.refusals.specs.Stands.{standing, stands_below}
use Rattle.refusals.proofs.page_for.Goals as goal

pub returns : goal.returns
returns c =
    let a = c.args in
    let lawful = c.lawful_desk.ensures in
    let stands = c.standing.ensures in (
      stands.0
          ∙ ap₂ (λ (g : Bool) (f : Found). standing g (lawful_key a.key) a.sized f) lawful.0
          (sym (find-pages a.desk.now lawful.1 (Used a.key))),
      subst (λ (n : ℕ). stands_below n c.standing.result) lawful.1.pages stands.1,
      lawful.1,
    )
