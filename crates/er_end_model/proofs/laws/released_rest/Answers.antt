use Rattle.er_end_model.proofs.Resting.{released_rest}
use Rattle.er_end_model.proofs.laws.released_rest.Goals as goal

pub returns : goal.returns
returns c = released_rest
