-- By the walk over all that a loop does.
use Rattle.application_model.proofs.Knowing.{each_tells_its_own}
use Rattle.application_model.proofs.laws.each_event_by_its_end.Goals as goal

pub returns : goal.returns
returns c = each_tells_its_own
