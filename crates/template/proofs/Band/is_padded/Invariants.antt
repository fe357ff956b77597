use mathlib.Core.Path.{◌≡◌}
use mathlib.Core.Bool.{true}
use Rattle.template.specs.Pels.{band_padded}
use Rattle.template.proofs.Band.is_padded.Given as goal

abbrev pub invariant-loop-y : goal.invariant-loop-y
invariant-loop-y l = true ≡ band_padded l.self.width l.self.pels.now l.y
