use Rattle.parts.specs.Parts.{places_of}
use Rattle.lawful.specs.Every.{each}
use Rattle.lawful.specs.Each.{place_right}
use Rattle.lawful.proofs.Every.{Left}
use Rattle.lawful.proofs.places_right.Given as goal

abbrev pub invariant-loop-i : goal.invariant-loop-i
invariant-loop-i l = let qs = places_of l.places l.learned in
    Left (place_right l.pages) (each (place_right l.pages) qs) qs l.i
