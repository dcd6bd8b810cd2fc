use Rattle.loop_model.proofs.laws.alone.Goals as goal
use Rattle.loop_model.proofs.Alone.{connections_stand_alone}
use Rattle.loop_model.proofs.AloneDialling.{dial_stands_alone}

pub returns : goal.returns
returns c = record { serving = connections_stand_alone; dialling = dial_stands_alone }
