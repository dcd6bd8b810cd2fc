-- By each event.
use Rattle.application_ends.proofs.Keeping.{keeps}
use Rattle.application_ends.proofs.laws.keeps_messages.Goals as goal

pub returns : goal.returns
returns c = keeps c.steps.ensures.only
