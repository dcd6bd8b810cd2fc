use Rattle.er_end_model.proofs.Timing.{expires_at_deadline, timely_ends}
use Rattle.er_end_model.proofs.laws.expires_at_deadline.Goals as goal

pub returns-clause-run : goal.returns-clause-run
returns-clause-run c = expires_at_deadline

pub returns-clause-timely : goal.returns-clause-timely
returns-clause-timely c = timely_ends
