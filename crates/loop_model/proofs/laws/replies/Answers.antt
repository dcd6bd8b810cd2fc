use Rattle.loop_model.proofs.EndKeepings.{waits_move, octets_bring, release_stays, breaks_release, released_want_none, released_tell_none}
use Rattle.loop_model.proofs.laws.replies.Goals as goal
use Rattle.loop_model.proofs.Replying.{users_reply}

pub returns : goal.returns
returns c =
    users_reply waits_move octets_bring release_stays breaks_release released_want_none (released_tell_none c.released_rest.ensures)
