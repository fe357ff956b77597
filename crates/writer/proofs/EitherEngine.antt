-- Request E8: whichever engine writes a band, what is handed back and each byte of the lent buffer are the same.
-- Assumes nothing.
use mathlib.Core.Path.{◌≡◌, sym, ◌∙◌}
use mathlib.Core.List.{List}
use Prim.Native.Nat.{ℕ}
use Rattle.std.specs.Prelude.{Option}
use Rattle.estimate.specs.declared.Table.{Table}
use Rattle.writer.specs.declared.Wrote.{Wrote}
use Rattle.writer.specs.Wrote.{BandWrote}

-- any two outcomes that the contract of `write_by` allows, by one engine or by both, are equal
pub either-engine : (width rows : ℕ) (table : Table) (last pels out : List ℕ) (r s : Option Wrote) (after then : List ℕ)
    → BandWrote width rows table last pels out r after → BandWrote width rows table last pels out s then
    → (r ≡ s) × (after ≡ then)
either-engine width rows table last pels out r s after then f g = (f.0 ∙ sym g.0, f.1 ∙ sym g.1)
