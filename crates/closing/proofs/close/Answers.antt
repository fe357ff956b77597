-- Close answers and leaves the desk as document 01 says. Assumes nothing.
use mathlib.Core.Path.{refl, ap, ◌∙◌}
use mathlib.Core.List.{[]}
use mathlib.Core.Bool.{true}
use Rattle.std.specs.Prelude.{Ok, Err}
use Rattle.std.proofs.lemmas.Result.{err_from_is_err_and}
use Rattle.parts.specs.Parts.{desk_of}
use Rattle.desk.specs.Calls.{closes}
use Rattle.desk.specs.Changes.{learned_place}
use Rattle.refusals.proofs.Refusing.{Stood, away, stood, at-end, refuses, nothing-done, nothing_lent}
use Rattle.closing.proofs.Leaving.{close-number, close-done}
use Rattle.closing.proofs.close.Goals as goal
use Rattle.closing.proofs.close.Goals.{In_ok-i}

-- it stands on its page
there : (c : In_ok-i) → Stood (desk_of c.args.desk.now) c.args.key true c.in_ok-i.i
there c = let r = c.page_for in stood (desk_of c.args.desk.now) c.args.key true r.result r.ensures.0 _ c.in_ok-i.was

pub returns-in_err-i : goal.returns-in_err-i
returns-in_err-i c =
    let k = c.args.key in
    let p = c.args.desk.now in
    let r = c.page_for in
    let gone = err_from_is_err_and c.from_residual.result c.from_residual.ensures.1 in
    let a = away (desk_of p) k true r.result r.ensures.0 _ c.in_err-i.was in
    refuses p r.ensures.2 (closes k) _ _ [] (close-number (desk_of p) k ∙ a.1 []) (gone.1 ∙ ap Err gone.2)
    (nothing_lent _)

pub returns : goal.returns
unfolding learned_place
returns c =
    let t = there (goal.at.returns c).In_ok-i in
    let k = c.args.key in
    let p = c.args.desk.now in
    close-done p c.page_for.ensures.2 k c.in_ok-i.i t.found c.put_place.new.self c.clear_page.new.self
    c.clear_page.ensures c.find_place-place.result (Ok c.default.result)
    (nothing-done _ c.default.result refl c.default.ensures) t.good
    (close-number (desk_of p) k ∙ t.rest [] ∙ at-end)
    c.find_place-place.ensures.0 c.put_place.ensures
