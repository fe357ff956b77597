-- The rest is right where all of them are. Assumes nothing.
use Prim.Native.Nat.{◌+◌}
use mathlib.Core.Path.{◌≡◌, refl, sym, ◌∙◌}
use mathlib.Core.Bool.{◌&&◌}
use native.Mathlib.Omega.{arith}
use lib.ListN.{get_or, drop, length}
use Rattle.parts.specs.Parts.{as_place, places_of}
use Rattle.desk.specs.Places.{no_place}
use Rattle.parts.proofs.Beside.{length-beside}
use Rattle.lawful.proofs.Every.{each-failed, each-passed, each-end}
use Rattle.lawful.specs.Each.{place_right}
use Rattle.lawful.proofs.Each.{place-right, both-made}
use Rattle.lawful.proofs.places_right.Goals as goal
use Rattle.lawful.proofs.places_right.Goals.{After-place_known, Start}

-- ---- what is known
many : (c : Start) → let a = c.args in length (places_of a.places.now a.learned.now) ≡ length a.places.now
many c = length-beside as_place _ _ c.requires

judged : (c : After-place_known) → let a = c.args in let i = c.loop-i.i in
    let qs = places_of a.places.now a.learned.now in
    place_right a.pages.now (get_or qs i no_place) (drop (i + 1) qs)
    ≡ (c.lawful_place-lawful.result && c.place_known.result)
judged c =
    place-right _ _ _ c.loop-i.i c.requires
    ∙ sym (both-made c.lawful_place-lawful.ensures c.place_known.ensures)

-- ---- the answers
pub loop-i-init : goal.loop-i-init
loop-i-init c = record { rest = refl }

pub returns-then-not-lawful-place_known : goal.returns-then-not-lawful-place_known
returns-then-not-lawful-place_known c =
    let past = goal.at.returns-then-not-lawful-place_known c in
    each-failed c.loop-i.invariant no_place (omega (arith, many past.Start))
    (judged past.After-place_known ∙ c.if-not-lawful-place_known.true)

pub loop-i-preserved : goal.loop-i-preserved
loop-i-preserved c =
    let past = goal.at.loop-i-preserved c in
    each-passed c.loop-i.invariant no_place (omega (arith, many past.Start))
    (judged past.After-place_known ∙ c.if-not-lawful-place_known.false)

pub returns : goal.returns
returns c = each-end c.loop-i.invariant (omega (arith, many (goal.at.returns c).Start))
