-- Demand 3 of the desk with demand 2's coder: any run of calls from an empty desk answers as if the closed pages had
-- been served whole, one after another, in the order of their closing. Assumes nothing.
use mathlib.Core.List.{List}
use Rattle.unique.proofs.OneReader.{reading}
use Rattle.desk.specs.Calls.{Call}
use Rattle.serial.specs.Demand3.{Demand3}
use Rattle.serial.proofs.Demand3.{demand3}

-- demand 3 of every run of calls, by the right reader
pub any_order : (cs : List Call) → Demand3 reading cs
any_order cs = demand3 reading cs
