-- By what a take leaves, and by what the other events tell.
use Rattle.application_ends.proofs.Keeping.{takes_oldest, takes_alone}
use Rattle.application_ends.proofs.laws.takes_the_oldest.Goals as goal

pub returns-clause-oldest : goal.returns-clause-oldest
returns-clause-oldest c = takes_oldest

pub returns-clause-alone : goal.returns-clause-alone
returns-clause-alone c = takes_alone c.steps.ensures.only
