use Rattle.drill_laws.proofs.StackFacts.{stacks_talk}
use Rattle.drill_laws.proofs.laws.stacks_talk.Goals as goal

pub returns : goal.returns
returns c = stacks_talk c.station_laws.ensures c.histories.ensures.facts c.histories.ensures.grow c.histories.ensures.own c.histories.ensures.other
