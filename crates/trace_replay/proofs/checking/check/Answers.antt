-- All events are taken and the lines were judged, or the first event that isn't is told.
use Rattle.std.proofs.lemmas.Result.{err_from_is_err_and}
use Rattle.trace_replay.proofs.Compares.{checked_all, checked_part}
use Rattle.trace_replay.proofs.checking.check.Goals as goal

pub returns-in_err-replay : goal.returns-in_err-replay
returns-in_err-replay g c =
    let p = err_from_is_err_and c.from_residual.result c.from_residual.ensures.1 in
    rw (p.1, p.2) (checked_part _ _ _ c.args.file.now _ _ c.in_err-replay.field-0.0 c.in_err-replay.ensures)

pub returns : goal.returns
returns g c =
    checked_all _ _ _ _ c.replay.new.out.items c.verdict_on.result (rw c.new-printed.ensures.items at c.in_ok-replay.ensures) (rw c.as_slice.ensures.value at c.verdict_on.ensures)
