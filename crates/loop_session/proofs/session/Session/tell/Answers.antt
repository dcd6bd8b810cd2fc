use Rattle.std.proofs.lemmas.Result.{err_from_is_err_and}
use Rattle.loop_session.proofs.Written.{tell_breaks, tell_fits, tell_stalls, gave_by}
use Rattle.loop_session.proofs.session.Session.tell.Goals as goal

pub returns-in_err-record_lines-clause-prints : goal.returns-in_err-record_lines-clause-prints
returns-in_err-record_lines-clause-prints g c = λ r s e gave.
    let p = err_from_is_err_and c.from_residual.result c.from_residual.ensures.1 in
    rw (p.1, p.2)
    (tell_breaks (g.O.Outside.told c.args.outside.now) (g.O.Outside.told c.record_lines.new.outside)
    r c.args.moment s c.args.self.now e c.as_slice.result.now c.args.came _ (gave_by r c.args.moment s e c.args.self.now _ _ c.args.came c.as_slice.ensures.value gave) c.in_err-record_lines.ensures.puts)

pub returns-then-came-clause-prints : goal.returns-then-came-clause-prints
returns-then-came-clause-prints g c = λ r s e gave.
    tell_fits (g.O.Outside.told c.args.outside.now) (g.O.Outside.told c.record_lines.new.outside)
    r c.args.moment s c.args.self.now e c.as_slice.result.now c.args.came (gave_by r c.args.moment s e c.args.self.now _ _ c.args.came c.as_slice.ensures.value gave) c.if-came.true c.in_ok-record_lines.ensures.puts

pub returns-clause-prints : goal.returns-clause-prints
returns-clause-prints g c = λ r s e gave.
    tell_stalls (g.O.Outside.told c.args.outside.now) (g.O.Outside.told c.record_lines.new.outside) (g.O.Outside.told c.stall.new.outside)
    r c.args.moment s c.args.self.now c.stall.new.self e c.as_slice.result.now c.args.came c.stall.result
    (gave_by r c.args.moment s e c.args.self.now _ _ c.args.came c.as_slice.ensures.value gave) c.if-came.false c.in_ok-record_lines.ensures.puts (c.stall.ensures.prints r)
