-- By the walk over all that a loop does.
use Rattle.application_model.proofs.Knowing.{have_the_newest_keys}
use Rattle.application_model.proofs.laws.events_have_the_newest_keys.Goals as goal

pub returns : goal.returns
returns c = have_the_newest_keys
