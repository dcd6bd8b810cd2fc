use Rattle.std.proofs.lemmas.Result.{err_from_is_err_and}
use Rattle.loop_session.specs.Giving.{event_given_to_session}
use Rattle.loop_session.specs.Parts.{rules_of_session}
use Rattle.loop_session.proofs.Deals.{handled_first, handled_then, handled_done}
use Rattle.loop_session.proofs.session.Session.handle.Goals as goal

pub returns-in_err-used-clause-chooses : goal.returns-in_err-used-clause-chooses
returns-in_err-used-clause-chooses g c = λ entries same.
    let r = rules_of_session entries c.args.when.now.setup in
    let p = err_from_is_err_and c.from_residual.result c.from_residual.ensures.1 in
    rw (p.1, p.2)
    (handled_first (g.O.Outside.told c.args.outside.now) (g.O.Outside.told c.deal.new.outside) r c.args.when.now.moment c.args.self.now (event_given_to_session c.args.event.now) _
    (c.in_err-used.ensures.chooses r same))

pub returns-in_err-take_all-clause-chooses : goal.returns-in_err-take_all-clause-chooses
returns-in_err-take_all-clause-chooses g c = λ entries same.
    let r = rules_of_session entries c.args.when.now.setup in
    let p = err_from_is_err_and c.from_residual-in_err-take_all.result c.from_residual-in_err-take_all.ensures.1 in
    rw (p.1, p.2)
    (handled_then (g.O.Outside.told c.args.outside.now) (g.O.Outside.told c.deal.new.outside) (g.O.Outside.told c.take_all.new.outside)
    r c.args.when.now.moment c.args.self.now c.deal.new.self (event_given_to_session c.args.event.now) _ (c.in_ok-used.ensures.chooses r same) (c.in_err-take_all.ensures.chooses r))

pub returns-clause-chooses : goal.returns-clause-chooses
returns-clause-chooses g c = λ entries same.
    let r = rules_of_session entries c.args.when.now.setup in
    handled_done (g.O.Outside.told c.args.outside.now) (g.O.Outside.told c.deal.new.outside) (g.O.Outside.told c.take_all.new.outside)
    r c.args.when.now.moment c.args.self.now c.deal.new.self c.take_all.new.self c.part.new.self (event_given_to_session c.args.event.now)
    (c.in_ok-used.ensures.chooses r same) (c.in_ok-take_all.ensures.chooses r) (c.part.ensures.parts entries)
