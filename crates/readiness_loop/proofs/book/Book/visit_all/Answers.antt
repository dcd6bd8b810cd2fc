use Rattle.std.proofs.Common.{get_or}
use Rattle.std.proofs.lemmas.Result.{err_from_is_err_and}
use Rattle.std.proofs.lemmas.Option.{slice_get-get_or}
use Rattle.readiness_loop.proofs.Sweeps.{swept_none, swept_next, swept_all, swept_breaks}
use Rattle.readiness_loop.proofs.Quiets.{keeps_all, keeps_then}
use Rattle.readiness_loop.proofs.book.Book.visit_all.Goals as goal

pub loop-number-init : goal.loop-number-init
loop-number-init g c = record {
  swept = swept_none _ _ _ _;
  seated = c.requires.seated;
  awaited = c.requires.awaited;
  keep = keeps_all (g.O.Outside.told c.args.outside.now);
}

pub loop-number-preserved : goal.loop-number-preserved
loop-number-preserved g c = record {
  swept = swept_next _ _ _ _ c.args.sequence.now c.loop-number.number-index (get_or c.args.sequence.now c.loop-number.number-index 0) _ _ _ c.loop-number.invariant.swept
      (slice_get-get_or c.args.sequence.now c.loop-number.number-index 0 c.loop-number-test.true) c.in_ok-visit.ensures.does;
  seated = c.in_ok-visit.ensures.seated;
  awaited = c.in_ok-visit.ensures.awaited;
  keep = keeps_then _ _ _ c.loop-number.invariant.keep c.visit.ensures.keep;
}

pub returns-in_err-visit-clause-does : goal.returns-in_err-visit-clause-does
returns-in_err-visit-clause-does g c =
    let p = err_from_is_err_and c.from_residual.result c.from_residual.ensures.1 in
    rw (p.1, p.2)
    (swept_breaks _ _ _ _ c.args.sequence.now c.loop-number.number-index (get_or c.args.sequence.now c.loop-number.number-index 0) _ _ c.in_err-visit.field-0.0 c.loop-number.invariant.swept
    (slice_get-get_or c.args.sequence.now c.loop-number.number-index 0 c.loop-number-test.true) c.in_err-visit.ensures.does)

pub returns-clause-does : goal.returns-clause-does
returns-clause-does g c = swept_all _ _ _ _ c.loop-number.number-index _ _ c.loop-number.invariant.swept c.loop-number-test.false
