use Rattle.loop_model.proofs.EndKeepings.{waits_move, octets_bring, release_stays, breaks_release, released_want_none, released_tell_none}
use Rattle.loop_model.proofs.laws.hearing.Goals as goal
use Rattle.loop_model.specs.Ends.{model_ends}
use Rattle.loop_model.specs.Speeches.{events_heard, speech_heard}
use Rattle.loop_model.proofs.Replying.{users_hear}

pub returns : goal.returns
returns c = record {
  events = λ r m s g says mind own e. events_heard model_ends r m s g says mind own e;
  speech = speech_heard;
  live = users_hear waits_move octets_bring release_stays breaks_release released_want_none (released_tell_none c.released_rest.ensures);
}
