use Rattle.er_end_promises.proofs.Releasing.{release_is_told_at_once}
use Rattle.er_end_promises.proofs.laws.release_is_told.Goals as goal

pub returns : goal.returns
returns c = release_is_told_at_once c.standing.ensures.made c.standing.ensures.steps c.standing.ensures.runs c.releases.ensures.event
