use Rattle.drill_laws.proofs.OrderUnforged.{order_is_unforged}
use Rattle.drill_laws.proofs.laws.order_is_unforged.Goals as goal

pub returns : goal.returns
returns c =
    λ plan steps fit allowed.
    order_is_unforged c.stack_laws.ensures c.in_step_while_ordered.ensures c.histories.ensures.facts c.station_laws.ensures c.histories.ensures.grow c.histories.ensures.own
    c.histories.ensures.other plan steps fit allowed
