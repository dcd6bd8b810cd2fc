use Rattle.loop_model.proofs.EndKeepings.{release_stays, breaks_release}
use Rattle.loop_model.proofs.laws.stalls.Goals as goal
use Rattle.loop_model.proofs.Stalling.{stalls_are_told}

pub returns : goal.returns
returns c = stalls_are_told release_stays breaks_release
