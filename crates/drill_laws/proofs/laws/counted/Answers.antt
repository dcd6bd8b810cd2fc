use Rattle.drill_laws.proofs.Counted.{drains_count, only_drains, totals_count, links_are_closed}
use Rattle.drill_laws.proofs.laws.counted.Goals as goal

pub returns-clause-drains : goal.returns-clause-drains
returns-clause-drains c = drains_count c.steps.ensures.only c.histories.ensures.grow c.histories.ensures.own

pub returns-clause-only_drains : goal.returns-clause-only_drains
returns-clause-only_drains c = only_drains

pub returns-clause-totals : goal.returns-clause-totals
returns-clause-totals c = totals_count

pub returns-clause-closings : goal.returns-clause-closings
returns-clause-closings c = links_are_closed c.histories.ensures.facts
