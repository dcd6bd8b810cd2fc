-- Where a history is cut, what is owed there is owed.
use Rattle.application_model.proofs.Cutting.{each_beginning}
use Rattle.application_model.proofs.laws.each_beginning_is_as_claimed.Goals as goal

pub returns : goal.returns
returns c = each_beginning
