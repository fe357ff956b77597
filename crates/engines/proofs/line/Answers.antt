-- Every entry of a new page's table is 0. Assumes nothing.
use Prim.Native.Nat.{ℕ, ◌/◌, ◌≤◌, ◌<◌}
use native.Mathlib.Decide.{dec_lt}
use native.Mathlib.Omega.{arith}
use lib.ListN.{replicate, get_or, get_or-replicate, get_or-eq_default, length-replicate}
use Rattle.limits.specs.Limits.{contexts}
use Rattle.estimate.specs.Estimate.{fresh, LawfulTable}
use Rattle.engines.proofs.line.Goals as goal

zeros : (n : ℕ) → LawfulTable (replicate n 0)
zeros n cx = go (dec_lt cx n)
  where
    go : Dec (cx < n) → get_or (replicate n 0) cx 0 / 2 ≤ 29
    go (yes h) = omega (arith, get_or-replicate {A = ℕ} n cx 0 0 h)
    go (no h) = omega (
      arith,
      get_or-eq_default {A = ℕ} (replicate n 0) 0 {n = cx}
          (rw (length-replicate {A = ℕ} n 0) (omega arith)),
    )

fresh-lawful : LawfulTable fresh
unfolding fresh
fresh-lawful = zeros contexts

pub write_by-requires : goal.write_by-requires
write_by-requires g c = (c.requires, rw c.fresh.ensures fresh-lawful)
