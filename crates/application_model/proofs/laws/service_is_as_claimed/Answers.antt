-- By the laws of each thing that a loop does.
use Rattle.application_model.proofs.Claimed.{as_claimed}
use Rattle.application_model.proofs.laws.service_is_as_claimed.Goals as goal

pub returns : goal.returns
returns c = as_claimed
