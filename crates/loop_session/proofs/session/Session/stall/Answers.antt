use Rattle.std.proofs.Common.{refl}
use Rattle.loop_session.specs.Keeping.{kept_ends}
use Rattle.std.proofs.lemmas.Result.{err_from_is_err_and}
use Rattle.loop_model.specs.Sessions.{Stalls, stalled}
use Rattle.loop_session.proofs.Written.{gave_by, stall_prints, prints_wanted}
use Rattle.loop_session.proofs.session.Session.stall.Goals as goal

pub returns-clause-prints : goal.returns-clause-prints
returns-clause-prints g c = λ r.
    stall_prints (g.O.Outside.told c.args.outside.now) (g.O.Outside.told c.record_lines.new.outside)
    r c.args.moment c.args.self.now c.give.new.self _ _ c.record_lines.result c.give.ensures.mind
    (gave_by r c.args.moment c.args.self.now Stalls c.give.new.self _ _ _ c.as_slice.ensures.value (c.in_ok-came.ensures.gave r refl)) c.record_lines.ensures.puts

pub returns-in_err-came-clause-prints : goal.returns-in_err-came-clause-prints
returns-in_err-came-clause-prints g c = λ r.
    let p = err_from_is_err_and c.from_residual.result c.from_residual.ensures.1 in
    prints_wanted (g.O.Outside.told c.args.outside.now) _ (stalled kept_ends r c.args.moment c.args.self.now) c.from_residual.result p.0 _ p.1 p.2
