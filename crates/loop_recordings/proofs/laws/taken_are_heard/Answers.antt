use Rattle.loop_recordings.proofs.laws.taken_are_heard.Goals as goal
use Rattle.loop_recordings.proofs.Hearings.{taken_are_heard}

pub returns : goal.returns
returns c = taken_are_heard c.outcomes_are_short.ensures
