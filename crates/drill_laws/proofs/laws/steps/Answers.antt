use Rattle.drill_laws.proofs.FileEffects.{all_steps}
use Rattle.drill_laws.proofs.laws.steps.Goals as goal

pub returns : goal.returns
returns c =
    all_steps c.steps.ensures.only c.histories.ensures.facts c.histories.ensures.grow c.histories.ensures.own c.histories.ensures.other c.runs_grow.ensures.run
