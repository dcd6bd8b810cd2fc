use Rattle.loop_model.proofs.laws.visits_write.Goals as goal
use Rattle.loop_model.proofs.Settlings.{writable_is_written, visits_write}

pub returns : goal.returns
returns c = record { first = writable_is_written; rest = visits_write }
