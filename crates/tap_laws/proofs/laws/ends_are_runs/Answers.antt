use Rattle.tap_laws.proofs.Running.{ends_are_runs}
use Rattle.tap_laws.proofs.laws.ends_are_runs.Goals as goal

pub returns : goal.returns
returns c = ends_are_runs
