use Rattle.er_end_laws.proofs.Lasting.{last_tpdus, ends_are_live}
use Rattle.er_end_laws.proofs.laws.last_tpdus.Goals as goal

pub returns-clause-table : goal.returns-clause-table
returns-clause-table c = last_tpdus c.releases_are_told.ensures.calls c.receives_give.ensures c.steps.ensures.only c.steps.ensures.each c.releases.ensures.each

pub returns-clause-ends : goal.returns-clause-ends
returns-clause-ends c = ends_are_live c.releases_are_told.ensures.calls c.receives_give.ensures c.steps.ensures.only c.steps.ensures.each c.releases.ensures.each
