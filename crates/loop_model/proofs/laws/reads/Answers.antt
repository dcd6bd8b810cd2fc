use Rattle.loop_model.proofs.laws.reads.Goals as goal
use Rattle.loop_model.proofs.Readings.{one_read_a_turn}
use Rattle.loop_model.proofs.Sizing.{reads_are_sized}

pub returns : goal.returns
returns c = record { once = one_read_a_turn; sized = reads_are_sized }
