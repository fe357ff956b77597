-- The rest is right where all of them are. Assumes nothing.
use Prim.Native.Nat.{◌+◌}
use mathlib.Core.Path.{◌≡◌, refl, sym, ◌∙◌}
use mathlib.Core.Bool.{◌&&◌}
use native.Mathlib.Omega.{arith}
use lib.ListN.{get_or, drop, length}
use Rattle.parts.specs.Parts.{pages_of}
use Rattle.desk.specs.Places.{no_page}
use Rattle.parts.proofs.Lines.{length-pages}
use Rattle.lawful.proofs.Every.{each-failed, each-passed, each-end}
use Rattle.lawful.specs.Each.{page_right}
use Rattle.lawful.proofs.Each.{page-right, both-made}
use Rattle.lawful.proofs.pages_right.Goals as goal
use Rattle.lawful.proofs.pages_right.Goals.{After-page_known, Start}

-- ---- what is known
many : (c : Start) → let a = c.args in length (pages_of a.pages.now a.working.now a.rows.now) ≡ length a.pages.now
many c = length-pages _ _ _ c.requires.0 c.requires.1

judged : (c : After-page_known) → let a = c.args in let i = c.loop-i.i in
    let ps = pages_of a.pages.now a.working.now a.rows.now in
    page_right a.places.now (get_or ps i no_page) (drop (i + 1) ps)
    ≡ (c.lawful_page-lawful.result && c.page_known.result)
judged c =
    page-right _ _ _ _ c.loop-i.i c.requires.0 c.requires.1
    ∙ sym (both-made c.lawful_page-lawful.ensures c.page_known.ensures)

-- ---- the answers
pub loop-i-init : goal.loop-i-init
loop-i-init c = record { rest = refl }

pub returns-then-not-lawful-page_known : goal.returns-then-not-lawful-page_known
returns-then-not-lawful-page_known c =
    let past = goal.at.returns-then-not-lawful-page_known c in
    each-failed c.loop-i.invariant no_page (omega (arith, many past.Start))
    (judged past.After-page_known ∙ c.if-not-lawful-page_known.true)

pub loop-i-preserved : goal.loop-i-preserved
loop-i-preserved c =
    let past = goal.at.loop-i-preserved c in
    each-passed c.loop-i.invariant no_page (omega (arith, many past.Start))
    (judged past.After-page_known ∙ c.if-not-lawful-page_known.false)

pub returns : goal.returns
returns c = each-end c.loop-i.invariant (omega (arith, many (goal.at.returns c).Start))
