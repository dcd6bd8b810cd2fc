use Rattle.loop_model.proofs.laws.open_connections.Goals as goal
use Rattle.loop_model.proofs.Closings.{on_open}

pub returns : goal.returns
returns c = on_open
