use Rattle.loop_model.specs.Speeches.{events_heard}
use Rattle.loop_session.specs.Keeping.{kept_ends}
use Rattle.loop_session.proofs.laws.hearing.Goals as goal

pub returns : goal.returns
returns c = λ r m s g says mind own e. events_heard kept_ends r m s g says mind own e
