-- Before the header nothing was told.
use Rattle.application_serving.proofs.Moments.{recorded_first}
use Rattle.application_serving.proofs.laws.records_first.Goals as goal

pub returns : goal.returns
returns c = recorded_first
