use Rattle.std.proofs.Common.{refl}
use Rattle.loop_session.specs.Keeping.{kept_ends}
use Rattle.std.proofs.lemmas.Result.{err_from_is_err_and}
use Rattle.loop_model.specs.Sessions.{Leaves, fed}
use Rattle.loop_session.proofs.Written.{given_prints, prints_wanted}
use Rattle.loop_session.proofs.session.Session.leave.Goals as goal

pub returns-clause-prints : goal.returns-clause-prints
returns-clause-prints g c = λ r.
    given_prints (g.O.Outside.told c.args.outside.now) (g.O.Outside.told c.tell.new.outside)
    r c.args.moment c.args.self.now _ c.tell.new.self (Leaves c.args.sub) c.tell.result c.give.ensures.mind
    (c.tell.ensures.prints r c.args.self.now (Leaves c.args.sub) (c.in_ok-came.ensures.gave r refl))

pub returns-in_err-came-clause-prints : goal.returns-in_err-came-clause-prints
returns-in_err-came-clause-prints g c = λ r.
    let p = err_from_is_err_and c.from_residual.result c.from_residual.ensures.1 in
    prints_wanted (g.O.Outside.told c.args.outside.now) _ (fed kept_ends r c.args.moment c.args.self.now (Leaves c.args.sub)) c.from_residual.result p.0 _ p.1 p.2
