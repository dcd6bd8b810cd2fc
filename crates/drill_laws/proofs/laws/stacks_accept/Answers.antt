use Rattle.drill_laws.proofs.StackAccepting.{stacks_accept}
use Rattle.drill_laws.proofs.laws.stacks_accept.Goals as goal

pub returns : goal.returns
returns c = stacks_accept c.histories.ensures.facts c.histories.ensures.grow c.histories.ensures.own c.histories.ensures.other
