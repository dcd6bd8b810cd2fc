use Rattle.loop_model.proofs.EndKeepings.{release_stays, breaks_release}
use Rattle.loop_model.proofs.laws.broken.Goals as goal
use Rattle.loop_model.proofs.Breaking.{broken_are_left}

pub returns : goal.returns
returns c = broken_are_left release_stays breaks_release
