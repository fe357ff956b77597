-- What may be there or not. Assumes nothing.
use Rattle.std.specs.Prelude.{Bool, true, false}
use Rattle.std.proofs.Math.Option.{Option, some, none}

-- whether something is there
abbrev pub given : {A : Type 0} → Option A → Bool
given none = false
given (some a) = true

-- what an option holds, or a where it holds nothing
abbrev pub or_else : {A : Type 0} → Option A → A → A
or_else none a = a
or_else (some b) a = b
