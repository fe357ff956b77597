-- By whether a place is free. Assumes nothing.
use mathlib.Core.Path.{refl, ◌≡◌, sym, ap, ◌∙◌}
use Rattle.band.specs.Band.{white}
use Rattle.parts.specs.declared.PageLine.{PageLine}
use Rattle.parts.specs.declared.Sought.TheVariants.{Free}
use Rattle.parts.specs.Parts.{as_page, desk_of}
use Rattle.desk.specs.Places.{zero_table, is_found, free_place_found}
use Rattle.parts.proofs.Lines.{find-places}
use Rattle.parts.proofs.Puts.{page-as, page-whole, place-whole}
use Rattle.desk.specs.Changes.{reserved_place}
use Rattle.std.specs.Prelude.{Ok}
use Rattle.refusals.proofs.Refusing.{nothing-done}
use Rattle.opening.proofs.Opening.{new-refused, new-done}
use Rattle.opening.proofs.open_new.Goals as goal
use Rattle.opening.proofs.open_new.Goals.{After-is_none}

-- whether a place is free
finds-free : (c : After-is_none) → free_place_found (desk_of c.args.desk.now) ≡ c.find_place-place.result
finds-free c = find-places c.args.desk.now c.requires.1 Free ∙ sym c.find_place-place.ensures.0

pub returns-then-is_none : goal.returns-then-is_none
returns-then-is_none c = (
  new-refused c.args.desk.now c.args.ask c.args.i
      (ap is_found (finds-free (goal.at.returns-then-is_none c).After-is_none) ∙ c.if-is_none.ensures),
  c.requires.1,
)

pub returns : goal.returns
unfolding reserved_place zero_table white
returns c =
    let past = goal.at.returns c in
    let a = c.args in
    let e = finds-free past.After-is_none in
    let put = page-as (ap (λ (x : PageLine). as_page x c.fresh.result.entries white) c.new_line.ensures)
    c.put_page.ensures in (
      new-done a.desk.now c.put_place.new.self c.put_page.new.self a.ask a.i c.find_place-place.result c.fresh.result
          (Ok c.default.result) (nothing-done _ c.default.result refl c.default.ensures)
          (ap is_found e ∙ c.if-is_none.ensures) (sym e) c.fresh.ensures
          c.put_place.ensures put,
      page-whole (place-whole c.requires.1 c.put_place.ensures) put,
    )
