-- The first engine: registers that hold the lower end. Assumes nothing.
use Rattle.std.specs.Prelude.{◌≡◌, []}
use Rattle.engine.specs.Engine.{Engine}
use Rattle.estimate.specs.Estimate.{LawfulEntry}
use Rattle.interval.specs.Interval.{decision}
use Rattle.octets.specs.declared.Coder.{Coder}
use Rattle.octets.specs.Octets.{pel, finish, ended}
use Rattle.octets.specs.Fit.{Ready}
use Rattle.octets.specs.Lift.{lift}
use Rattle.band.specs.Band.{q_scheme, q_writer}

abbrev pub q_engine : Engine
q_engine =
    record {
      scheme = q_scheme;
      writer = q_writer;
      Lawful = LawfulEntry;
      Registers = Coder;
      stands = lift;
      Ready = λ c. Ready (lift c []);
      Puts = λ q e c d ys. pel (decision q e) (lift c []) ≡ lift d ys;
      last = λ c. ended (finish (lift c []));
    }
