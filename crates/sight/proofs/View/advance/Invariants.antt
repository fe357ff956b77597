use mathlib.Core.Path.{◌≡◌}
use Prim.Native.Nat.{ℕ, ◌+◌, ◌-◌, ◌^◌, ◌≤◌, ◌<◌}
use lib.ListN.{length}
use Rattle.sight.specs.Views.{sight_of, seeks}
use Rattle.sight.proofs.View.advance.Given as goal

abbrev pub invariant-loop-v : goal.invariant-loop-v
invariant-loop-v l = (l.v.at ≤ length l.code) × (l.v.look ≤ l.k + 7) × (l.v.x < 2 ^ 32)
    × ((w : ℕ) → seeks l.k (sight_of l.v w l.code) ≡ seeks l.k (sight_of l.initial.v w l.code))

abbrev pub decreases-loop-v : goal.decreases-loop-v
decreases-loop-v l = l.k - l.v.look
