use Rattle.er_end_model.proofs.Releasing.{end_releases, runs_release}
use Rattle.er_end_model.proofs.laws.releases.Goals as goal

pub returns-clause-event : goal.returns-clause-event
returns-clause-event c = end_releases c.receives_give.ensures c.ticks_give.ensures c.steps.ensures.only c.steps.ensures.each c.releases.ensures.each

pub returns-clause-run : goal.returns-clause-run
returns-clause-run c = runs_release c.receives_give.ensures c.ticks_give.ensures c.steps.ensures.only c.steps.ensures.each c.releases.ensures.each
