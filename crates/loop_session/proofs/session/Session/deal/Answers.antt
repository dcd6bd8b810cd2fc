use Rattle.std.proofs.Common.{Ok, Err}
use Rattle.std.proofs.lemmas.Result.{err_from_is_err_and}
use Rattle.loop_session.specs.Keeping.{kept_ends}
use Rattle.loop_session.specs.Giving.{event_given_to_session}
use Rattle.loop_model.specs.Sessions.{silent_answer, dealt}
use Rattle.loop_session.proofs.Written.{wanted}
use Rattle.loop_session.proofs.Deals.{deal_broke, deal_chooses}
use Rattle.loop_session.proofs.session.Session.deal.Goals as goal

pub returns-in_err-came-clause-chooses : goal.returns-in_err-came-clause-chooses
returns-in_err-came-clause-chooses g c = λ r same.
    let p = err_from_is_err_and c.from_residual.result c.from_residual.ensures.1 in
    wanted (g.O.Outside.told c.args.outside.now) _ silent_answer (dealt kept_ends r c.args.moment c.args.self.now (event_given_to_session c.args.event.now)) c.from_residual.result p.0 _ p.1 p.2

pub returns-in_err-tell-clause-chooses : goal.returns-in_err-tell-clause-chooses
returns-in_err-tell-clause-chooses g c = λ r same.
    let e = event_given_to_session c.args.event.now in
    let p = err_from_is_err_and c.from_residual-in_err-tell.result c.from_residual-in_err-tell.ensures.1 in
    rw (p.1, p.2)
    (deal_broke (g.O.Outside.told c.args.outside.now) (g.O.Outside.told c.tell.new.outside)
    r c.args.moment c.args.self.now e _ _ _ (c.in_ok-came.ensures.heard r same) (c.in_err-tell.ensures.prints r c.args.self.now e (c.in_ok-came.ensures.gave r same)))

pub returns-in_err-reply-clause-chooses : goal.returns-in_err-reply-clause-chooses
returns-in_err-reply-clause-chooses g c = λ r same.
    let e = event_given_to_session c.args.event.now in
    let p = err_from_is_err_and c.from_residual-in_err-reply.result c.from_residual-in_err-reply.ensures.1 in
    rw (p.1, p.2)
    (deal_chooses (g.O.Outside.told c.args.outside.now) (g.O.Outside.told c.tell.new.outside) (g.O.Outside.told c.reply.new.outside)
    r c.args.moment c.args.self.now c.tell.new.self c.reply.new.self e _ _ (Err c.in_err-reply.field-0.0)
    (c.in_ok-came.ensures.heard r same) (c.in_ok-tell.ensures.prints r c.args.self.now e (c.in_ok-came.ensures.gave r same)) (c.in_err-reply.ensures.prints r))

pub returns-clause-chooses : goal.returns-clause-chooses
returns-clause-chooses g c = λ r same.
    let e = event_given_to_session c.args.event.now in
    deal_chooses (g.O.Outside.told c.args.outside.now) (g.O.Outside.told c.tell.new.outside) (g.O.Outside.told c.reply.new.outside)
    r c.args.moment c.args.self.now c.tell.new.self c.reply.new.self e _ _ (Ok tt)
    (c.in_ok-came.ensures.heard r same) (c.in_ok-tell.ensures.prints r c.args.self.now e (c.in_ok-came.ensures.gave r same)) (c.in_ok-reply.ensures.prints r)
