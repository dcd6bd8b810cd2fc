use Rattle.loop_model.proofs.EndKeepings.{steps_alike, made_stands, shows_alike, waits_move, octets_bring, release_stays, breaks_release}
use Rattle.loop_model.proofs.laws.recordings.Goals as goal
use Rattle.loop_model.proofs.Replaying.{recordings_replay}

pub returns : goal.returns
returns c =
    recordings_replay steps_alike made_stands shows_alike waits_move octets_bring release_stays
    breaks_release
