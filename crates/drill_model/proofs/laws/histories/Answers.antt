use Rattle.drill_model.proofs.Growing.{history_grows, facts_grow, history_of_own, history_of_other}
use Rattle.drill_model.proofs.laws.histories.Goals as goal

pub returns-clause-grow : goal.returns-clause-grow
returns-clause-grow c = history_grows

pub returns-clause-facts : goal.returns-clause-facts
returns-clause-facts c = facts_grow

pub returns-clause-own : goal.returns-clause-own
returns-clause-own c = history_of_own

pub returns-clause-other : goal.returns-clause-other
returns-clause-other c = history_of_other
