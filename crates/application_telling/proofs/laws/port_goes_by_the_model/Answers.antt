-- By the lengths of what waits.
use Rattle.application_telling.proofs.Modelled.{by_the_model}
use Rattle.application_telling.proofs.laws.port_goes_by_the_model.Goals as goal

pub returns : goal.returns
returns c = by_the_model
