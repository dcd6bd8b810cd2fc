-- The steps that were all done, and the one that wasn't.
use Rattle.std.proofs.Common.{◌∙◌}
use Rattle.er_program.proofs.BulkRuns.{planned, doable_so, ran_so}
use Rattle.er_program.proofs.BulkActs.{ends_counted, ends_halted}
use Rattle.er_program.proofs.bulk.bulk.Goals as goal

pub do_all-requires-clause-doable : goal.do_all-requires-clause-doable
do_all-requires-clause-doable g c =
    doable_so _ _ _ (planned _ _ c.in_ok-world.ensures.plan c.usual.ensures.value) c.as_slice.ensures.value c.in_ok-steps.ensures.doable

pub do_all-requires-clause-ran : goal.do_all-requires-clause-ran
do_all-requires-clause-ran g c = ran_so _ _ c.in_ok-world.ensures.plan c.in_ok-world.ensures.ran

pub returns-in-Ok : goal.returns-in-Ok
returns-in-Ok g c = record {
  does = ends_counted c.args.seed c.args.count _ _ _ _ _ _ _ (planned _ _ c.in_ok-world.ensures.plan c.usual.ensures.value) (c.as_slice.ensures.value ∙ c.in_ok-steps.ensures.steps)
      c.in-Ok.ensures c.totals.ensures (rw c.get.ensures.same at c.counted.ensures.does);
}

pub returns : goal.returns
returns g c = record {
  does = ends_halted c.args.seed c.args.count _ _ _ _ _ _ (planned _ _ c.in_ok-world.ensures.plan c.usual.ensures.value)
      (c.as_slice.ensures.value ∙ c.in_ok-steps.ensures.steps) c.in-Err.ensures c.not_done.ensures.tells;
}
