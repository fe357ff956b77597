-- The keys of the calls at the desk: the test of them has its laws. Assumes nothing.
use Rattle.turns.specs.Service.{KeyLaws}
use Rattle.desk.proofs.OpenPages.{key-self, key-only}
use Rattle.serial.specs.Run.{calling}

-- the desk's keys are the same only where they are equal
pub calling_keys : KeyLaws calling.Key calling.same
calling_keys = record { same_self = key-self; same_only = key-only }
