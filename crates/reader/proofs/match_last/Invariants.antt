use mathlib.Core.Path.{◌≡◌}
use mathlib.Core.Bool.{◌&&◌}
use lib.ListN.{take}
use Rattle.engine.specs.Followed.{matches}
use Rattle.reader.proofs.match_last.Given as goal

abbrev pub invariant-loop-i : goal.invariant-loop-i
invariant-loop-i l = l.same ≡ (l.good && matches l.code l.at (take l.i l.bytes))
