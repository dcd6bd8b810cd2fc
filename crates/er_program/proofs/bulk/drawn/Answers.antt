-- The steps fit a world of level full.
use Rattle.er_program.proofs.BulkRuns.{drawn_doable}
use Rattle.er_program.proofs.bulk.drawn.Goals as goal

pub returns-clause-doable : goal.returns-clause-doable
returns-clause-doable c = drawn_doable _ _ _ _ c.steps.ensures
