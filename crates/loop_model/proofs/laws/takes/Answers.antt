use Rattle.loop_model.proofs.laws.takes.Goals as goal
use Rattle.loop_model.proofs.Emptying.{all_are_taken}

pub returns : goal.returns
returns c = all_are_taken
