-- What the loops over rows and bands ask of a coder, whatever its registers. Assumes nothing.
use Rattle.std.specs.Prelude.{ℕ, Bool, List}
use Rattle.coder.specs.Writing.{Writer}
use Rattle.coder.specs.Page.{Scheme}

-- scheme and writer: the definitions that the code is held to.
-- Lawful: the entries that a table may have.
-- Registers: the code's own. stands: where the writer stands with them, after the bytes that were settled before.
-- Ready: registers that a pel may be put into.
-- Puts: a pel of the size q, expected or not, takes the first registers to the second and settles these bytes.
-- last: the last bytes, if the band ends here. The very first byte of all is no part of the code.
pub record Engine : Type 1 where
  pub scheme : Scheme
  pub writer : Writer
  pub Lawful : ℕ → Type 0
  pub Registers : Type 0
  pub stands : Registers → List ℕ → writer.State
  pub Ready : Registers → Type 0
  pub Puts : ℕ → Bool → Registers → Registers → List ℕ → Type 0
  pub last : Registers → List ℕ
