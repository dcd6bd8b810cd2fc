-- By the octets that such an outside was to write.
use Rattle.recorded_runs.proofs.Joining.{holds_beginning}
use Rattle.recorded_runs.proofs.laws.holds_a_beginning_of_its_run.Goals as goal

pub returns : goal.returns
returns g c = λ before. holds_beginning before _ _ c.holds_a_beginning.ensures
