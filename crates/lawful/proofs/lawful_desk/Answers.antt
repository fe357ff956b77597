-- Every page, then every place. Assumes nothing.
use mathlib.Core.Path.{sym, ap, ap₂, ◌∙◌}
use mathlib.Core.Bool.{Bool, ◌&&◌}
use mathlib.Core.List.{List}
use borrow.Author.Rules.{rules}
use Rattle.parts.specs.declared.Parts.{Parts}
use Rattle.parts.specs.declared.PageLine.{PageLine}
use Rattle.parts.specs.declared.PlaceLine.{PlaceLine}
use Rattle.parts.specs.Parts.{desk_of, Whole}
use Rattle.parts.proofs.Lines.{lines-off, place-lines-off, tables-long, rows_long, learned-long}
use Rattle.lawful.specs.Every.{each}
use Rattle.lawful.specs.Each.{page_right, place_right}
use Rattle.lawful.proofs.Each.{lawful-each}
use Rattle.lawful.proofs.lawful_desk.Goals as goal

pub returns : goal.returns
returns c =
    let p : Parts = c.args.desk.now in
    let w : Whole p = record {
      pages = search rules;
      places = search rules;
      arrays = (search rules, search rules, search rules);
    } in (
      ap₂ (λ (x y : Bool). x && y)
          (c.pages_right.ensures ∙ ap (λ (z : List PlaceLine). each (page_right z) (desk_of p).pages)
          (sym (place-lines-off _ _ (learned-long p w))))
          (c.places_right.ensures
          ∙ ap (λ (z : List PageLine). each (place_right z) (desk_of p).places)
          (sym (lines-off _ _ _ (tables-long p w) (rows_long p w))))
          ∙ sym (lawful-each (desk_of p)),
      w,
    )
