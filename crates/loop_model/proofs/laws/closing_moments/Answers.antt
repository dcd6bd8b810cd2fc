use Rattle.loop_model.proofs.EndKeepings.{steps_alike, made_stands, shows_alike, release_stays, breaks_release}
use Rattle.loop_model.proofs.laws.closing_moments.Goals as goal
use Rattle.loop_model.proofs.Expiring.{closings_are_in_time}

pub returns : goal.returns
returns c = closings_are_in_time steps_alike made_stands shows_alike release_stays breaks_release
