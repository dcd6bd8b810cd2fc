-- What was owed and what the journal brought is what was told and what is owed.
use Rattle.application_model.proofs.Beginnings.{told_begins}
use Rattle.application_model.proofs.laws.told_begins_the_journal.Goals as goal

pub returns : goal.returns
returns c = told_begins
