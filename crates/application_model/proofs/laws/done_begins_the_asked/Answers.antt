-- What was owed and what was asked for is what was done and what is owed.
use Rattle.application_model.proofs.Beginnings.{done_begins, all_done}
use Rattle.application_model.proofs.laws.done_begins_the_asked.Goals as goal

pub returns-clause-begins : goal.returns-clause-begins
returns-clause-begins c = done_begins

pub returns-clause-all : goal.returns-clause-all
returns-clause-all c = all_done
