-- No event comes at a connection before it is opened.
use Rattle.application_model.specs.Services.{at_start}
use Rattle.application_model.proofs.Alone.{all_came}
use Rattle.application_model.proofs.Knowing.{knows_by_events}
use Rattle.application_model.proofs.laws.knows_by_events.Goals as goal

pub returns-clause-knows : goal.returns-clause-knows
returns-clause-knows c = knows_by_events

pub returns-clause-ends : goal.returns-clause-ends
returns-clause-ends c = λ items conn. all_came at_start items conn
