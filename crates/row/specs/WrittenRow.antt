-- A row that was written, whole. Assumes nothing.
use Rattle.std.specs.Prelude.{ℕ, List}
use Rattle.engine.specs.Coded.{row_page, Stored}
use Rattle.octets.specs.declared.Coder.{Coder}
use Rattle.template.specs.Pels.{pels_to}
use Rattle.row.specs.QEngine.{q_engine}

-- under the pels of the row above it
abbrev pub RowDone : ℕ → List ℕ → List ℕ → List ℕ → Coder → List ℕ → ℕ → ℕ → List ℕ → Coder → List ℕ → ℕ → ℕ → Type 0
RowDone width above row t₀ c₀ out₀ at₀ n₀ t c out at n =
    Stored q_engine width (row_page t₀ above) c₀ n₀ out₀ at₀ (pels_to row width) (row_page t (pels_to row width)) c n out at
