use Prim.Native.Nat.{◌*◌, ◌≤◌}
use Rattle.template.specs.White.{White}
use Rattle.template.proofs.white_to.Given as goal

-- the pels from x up to y, which is no later than the word at k, are white
abbrev pub invariant-loop-k : goal.invariant-loop-k
invariant-loop-k l = (l.y ≤ 8 * l.k) × (l.y ≤ 8 * l.bytes) × (l.x ≤ l.y) × White l.row l.x l.y
