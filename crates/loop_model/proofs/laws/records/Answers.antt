use Rattle.loop_model.proofs.laws.records.Goals as goal
use Rattle.loop_model.proofs.Recording.{records_begin, closed_exactly, halts_rest}

pub returns : goal.returns
returns c = record { begin = records_begin; closed = closed_exactly; rest = halts_rest }
