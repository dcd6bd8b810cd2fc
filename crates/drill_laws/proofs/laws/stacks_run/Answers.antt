use Rattle.drill_laws.proofs.StackRuns.{stacks_run}
use Rattle.drill_laws.proofs.laws.stacks_run.Goals as goal

pub returns : goal.returns
returns c =
    stacks_run c.stack_laws.ensures c.events_give.ensures c.histories.ensures.facts c.histories.ensures.grow c.histories.ensures.own c.histories.ensures.other
