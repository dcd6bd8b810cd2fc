use Rattle.loop_recordings.proofs.laws.dials.Goals as goal
use Rattle.loop_recordings.specs.Recordings.{DialsAreReplays}
use Rattle.loop_recordings.proofs.Dialling.{dials_are_replays, callers_key_suffices}

pub returns : goal.returns
returns c =
    let replays : DialsAreReplays = dials_are_replays c.printed_is_read.ensures c.events_speak_once.ensures c.openings.ensures.accepted c.outcomes_are_short.ensures in
    record { own = replays; caller = callers_key_suffices replays c.journal.ensures.isolated c.recordings.ensures }
