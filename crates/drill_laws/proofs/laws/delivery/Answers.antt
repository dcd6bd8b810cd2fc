use Rattle.drill_laws.proofs.Delivering.{delivers_always}
use Rattle.drill_laws.proofs.laws.delivery.Goals as goal

pub returns : goal.returns
returns c =
    delivers_always c.station_laws.ensures c.stack_laws.ensures c.order_is_unforged.ensures c.delivery.ensures c.delivery_bound.ensures.bound c.delivery_bound.ensures.drain c.allowed_are_bounded.ensures c.steps.ensures.only
    c.flows_deliver.ensures c.histories.ensures.facts c.histories.ensures.grow c.histories.ensures.own c.histories.ensures.other
