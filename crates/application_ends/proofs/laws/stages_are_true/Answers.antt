-- By each event.
use Rattle.application_ends.proofs.Running.{says_the_stage, stages_true}
use Rattle.application_ends.proofs.laws.stages_are_true.Goals as goal

pub returns-clause-end : goal.returns-clause-end
returns-clause-end c = says_the_stage c.steps.ensures.only

pub returns-clause-known : goal.returns-clause-known
returns-clause-known c = stages_true c.steps.ensures.only c.knows_by_events.ensures.knows
