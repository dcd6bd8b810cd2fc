use Rattle.drill_laws.proofs.OrderKeeping.{in_order_always}
use Rattle.drill_laws.proofs.laws.in_order.Goals as goal

pub returns : goal.returns
returns c =
    in_order_always c.station_laws.ensures c.stack_laws.ensures c.allowed_are_bounded.ensures c.histories.ensures.facts c.histories.ensures.grow c.histories.ensures.own c.histories.ensures.other c.prefix.ensures
