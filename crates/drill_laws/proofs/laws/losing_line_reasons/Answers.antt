use Rattle.drill_laws.proofs.OrderKeeping.{reasons_always}
use Rattle.drill_laws.proofs.laws.losing_line_reasons.Goals as goal

pub returns : goal.returns
returns c =
    reasons_always c.station_laws.ensures c.stack_laws.ensures c.allowed_are_bounded.ensures c.histories.ensures.facts c.histories.ensures.grow c.histories.ensures.own c.histories.ensures.other c.losing_line_reasons.ensures
