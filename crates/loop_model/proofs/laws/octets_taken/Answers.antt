use Rattle.loop_model.proofs.EndKeepings.{release_stays, breaks_release, uses_octets}
use Rattle.loop_model.proofs.laws.octets_taken.Goals as goal
use Rattle.loop_model.proofs.Hearing.{octets_are_heard}

pub returns : goal.returns
returns c = octets_are_heard release_stays breaks_release uses_octets
