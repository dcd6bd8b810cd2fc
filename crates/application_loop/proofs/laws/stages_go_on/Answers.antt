-- By each event.
use Rattle.application_loop.proofs.Staging.{stages_go_on}
use Rattle.application_loop.proofs.laws.stages_go_on.Goals as goal

pub returns : goal.returns
returns c = stages_go_on c.standing.ensures.steps c.standing.ensures.shows c.releases.ensures.event c.keeping.ensures.stays
