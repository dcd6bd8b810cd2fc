-- So many steps were done.
use Rattle.er_program.specs.BulkRuns.{DidFirst}
use Rattle.er_program.proofs.bulk.do_all.Given as goal

abbrev pub invariant-loop-step : goal.invariant-loop-step
invariant-loop-step l = DidFirst l.fn.world.plan l.steps l.step-index l.world
