-- The two bits of a row are its fall, row by row. Assumes nothing.
use mathlib.Core.Path.{◌≡◌}
use Prim.Native.Nat.{ℕ, ◌*◌, ◌/◌, ◌%◌, ◌^◌, ◌≤◌}
use native.Mathlib.Omega.{arith}
use mathlib.Core.Bool.{Bool}
use lib.Dec.{eqb, eqb→eq}
use Rattle.ground.proofs.Tables.{at_each}
use Rattle.estimate.specs.Estimate.{rows, fall}
use Rattle.estimate.proofs.fall_of.Goals as goal

abbrev bits_of : ℕ → ℕ
bits_of i = 0x0BBBAAAAAAAA9554 / 2 ^ (2 * i) % 4

falls_so : ℕ → ℕ → Bool
falls_so i q = eqb (bits_of i) (fall i)

bits-fall : (i : ℕ) → i ≤ 29 → bits_of i ≡ fall i
unfolding falls_so fall
bits-fall i h = eqb→eq (bits_of i) (fall i) (at_each falls_so 1 rows tt i (omega arith))

pub returns : goal.returns
returns c = omega (arith, bits-fall _ c.requires)
