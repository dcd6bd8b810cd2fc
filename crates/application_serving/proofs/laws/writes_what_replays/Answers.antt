-- What was written is the recording of a beginning of the history.
use Rattle.application_serving.proofs.Moments.{written_replays}
use Rattle.application_serving.proofs.laws.writes_what_replays.Goals as goal

pub returns : goal.returns
returns c = written_replays c.replays_tell_the_same.ensures.recording
