-- The second engine: registers that hold the top of the interval. Assumes nothing.
use Rattle.std.specs.Prelude.{ℕ, Bool, ◌≤◌}
use Rattle.engine.specs.Engine.{Engine}
use Rattle.top.specs.declared.Top.{Top}
use Rattle.top.specs.Top.{bottom_of}
use Rattle.row.specs.declared.Pel.{Pel}
use Rattle.row.specs.AnyEngine.{engine_over, Pelled}

-- the width lies below the top
abbrev pub TopSound : Top → Type 0
TopSound t = t.width ≤ t.top

abbrev pub top_engine : Engine
top_engine = engine_over bottom_of TopSound

-- one pel by it
abbrev pub TopPelled : Top → ℕ → Bool → Pel Top → Type 0
TopPelled = Pelled bottom_of TopSound
