use Rattle.drill_laws.proofs.Brought.{heard_is_brought}
use Rattle.drill_laws.proofs.laws.heard.Goals as goal

pub returns : goal.returns
returns c =
    heard_is_brought c.steps.ensures.only c.events_give.ensures c.histories.ensures.grow c.histories.ensures.own c.histories.ensures.other
