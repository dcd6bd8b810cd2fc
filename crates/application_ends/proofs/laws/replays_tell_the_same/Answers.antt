-- No event that is taken opens an end twice.
use Rattle.application_ends.proofs.Replaying.{replays_same}
use Rattle.application_ends.proofs.Replayed.{replays_print}
use Rattle.application_ends.proofs.laws.replays_tell_the_same.Goals as goal

pub returns-clause-event : goal.returns-clause-event
returns-clause-event c = replays_same

pub returns-clause-recording : goal.returns-clause-recording
returns-clause-recording c = replays_print c.each_event_by_its_end.ensures
