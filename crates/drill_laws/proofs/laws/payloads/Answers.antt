use Rattle.drill_laws.proofs.Arriving.{payloads_are_brought}
use Rattle.drill_laws.proofs.laws.payloads.Goals as goal

pub returns : goal.returns
returns c =
    payloads_are_brought c.histories.ensures.facts c.histories.ensures.grow c.histories.ensures.own c.histories.ensures.other
