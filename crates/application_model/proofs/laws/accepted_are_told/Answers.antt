-- What was taken was told, and the rest waits.
use Rattle.application_model.proofs.Messages.{accepted_are_told}
use Rattle.application_model.proofs.laws.accepted_are_told.Goals as goal

pub returns : goal.returns
returns c = accepted_are_told
