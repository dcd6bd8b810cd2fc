use Rattle.er_end_promises.proofs.Taking.{taken_in_order, taken_begins_accepted}
use Rattle.er_end_promises.proofs.laws.taken_in_order.Goals as goal

pub returns-clause-each : goal.returns-clause-each
returns-clause-each c = taken_in_order c.keeping.ensures.waits c.keeping.ensures.bring

pub returns-clause-opened : goal.returns-clause-opened
returns-clause-opened c = taken_begins_accepted c.keeping.ensures.waits c.keeping.ensures.bring
