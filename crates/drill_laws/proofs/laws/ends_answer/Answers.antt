use Rattle.drill_laws.proofs.Answering.{ends_answer}
use Rattle.drill_laws.proofs.laws.ends_answer.Goals as goal

pub returns : goal.returns
returns c =
    ends_answer c.steps.ensures.only c.station_laws.ensures c.timers_start.ensures c.histories.ensures.grow c.histories.ensures.own c.histories.ensures.other
