use Rattle.drill_laws.proofs.Taking.{takes_in_order}
use Rattle.drill_laws.proofs.laws.takes.Goals as goal

pub returns : goal.returns
returns c =
    takes_in_order c.steps.ensures.only c.stacks_report.ensures.calls c.stacks_report.ensures.opens c.histories.ensures.grow c.histories.ensures.own c.histories.ensures.other
    c.histories.ensures.facts c.station_laws.ensures
