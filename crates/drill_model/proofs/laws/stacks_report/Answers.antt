use Rattle.drill_model.proofs.StackReporting.{opens_orderly, calls_report}
use Rattle.drill_model.proofs.laws.stacks_report.Goals as goal

pub returns-clause-opens : goal.returns-clause-opens
returns-clause-opens c = opens_orderly

pub returns-clause-calls : goal.returns-clause-calls
returns-clause-calls c = calls_report c.steps.ensures.only c.session_keys.ensures.own
