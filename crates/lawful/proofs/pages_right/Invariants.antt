use Rattle.parts.specs.Parts.{pages_of}
use Rattle.lawful.specs.Every.{each}
use Rattle.lawful.specs.Each.{page_right}
use Rattle.lawful.proofs.Every.{Left}
use Rattle.lawful.proofs.pages_right.Given as goal

abbrev pub invariant-loop-i : goal.invariant-loop-i
invariant-loop-i l = let ps = pages_of l.pages l.working l.rows in
    Left (page_right l.places) (each (page_right l.places) ps) ps l.i
