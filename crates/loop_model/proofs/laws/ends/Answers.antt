use Rattle.loop_model.proofs.laws.ends.Goals as goal
use Rattle.loop_model.proofs.Showing.{ends_show}

pub returns : goal.returns
returns c = ends_show
