use Rattle.loop_recordings.proofs.laws.recordings.Goals as goal
use Rattle.loop_recordings.proofs.Replaying.{recordings_are_replays}

pub returns : goal.returns
returns c = recordings_are_replays c.printed_is_read.ensures c.outcomes_are_short.ensures
