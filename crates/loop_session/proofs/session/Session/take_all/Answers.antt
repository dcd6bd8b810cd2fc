use Rattle.std.proofs.Common.{◌≡◌, ◌<◌, length, refl, ap, ◌∙◌, arith}
use Rattle.std.proofs.lemmas.Result.{err_from_is_err_and}
use Rattle.loop_session.specs.Keeping.{kept_ends}
use Rattle.er_end.specs.KeptEnds.{KEnd, waiting_in}
use Rattle.loop_model.specs.Sessions.{Session, Takes, count_waiting_in_session, dealt}
use Rattle.loop_session.proofs.Written.{only_none, only_then}
use Rattle.loop_session.proofs.Deals.{went_none, went_more, takes_done, takes_broke}
use Rattle.loop_session.proofs.session.Session.take_all.Goals as goal

pub loop-init : goal.loop-init
loop-init g c = record { went = λ r. went_none (g.O.Outside.told c.args.outside.now) (λ t free. dealt kept_ends r c.args.moment t Takes free) c.args.self.now; number = refl; only = only_none _ }

pub returns-in_err-deal-clause-chooses : goal.returns-in_err-deal-clause-chooses
returns-in_err-deal-clause-chooses g c = λ r.
    let same : length (waiting_in c.deref.result.now) ≡ count_waiting_in_session kept_ends c.args.self.now =
    ap (λ (e : KEnd). length (waiting_in e)) c.deref.ensures ∙ ap (λ (z : Session KEnd). count_waiting_in_session kept_ends z) c.self.view_is in
    let few : c.loop.counter < count_waiting_in_session kept_ends c.args.self.now = omega (arith, c.loop-test.true, c.waiting-end.ensures.value, same) in
    let p = err_from_is_err_and c.from_residual.result c.from_residual.ensures.1 in
    rw (p.1, p.2)
    (takes_broke (g.O.Outside.told c.args.outside.now) (g.O.Outside.told c.loop.outside) (g.O.Outside.told c.deal.new.outside)
    r c.args.moment c.args.self.now c.loop.self c.loop.counter _ few
    (c.loop.invariant.went r) (c.in_err-deal.ensures.chooses r refl))

pub loop-preserved : goal.loop-preserved
loop-preserved g c = record {
  went = λ r.
      went_more c.loop.counter (g.O.Outside.told c.args.outside.now) (g.O.Outside.told c.loop.outside) (g.O.Outside.told c.deal.new.outside)
      (λ t free. dealt kept_ends r c.args.moment t Takes free) c.args.self.now c.loop.self c.deal.new.self (c.loop.invariant.went r) (c.in_ok-deal.ensures.chooses r refl);
  number = c.in_ok-deal.ensures.number ∙ c.loop.invariant.number;
  only = only_then _ _ _ c.loop.invariant.only c.in_ok-deal.ensures.only;
}

pub returns-clause-chooses : goal.returns-clause-chooses
returns-clause-chooses g c = λ r.
    let same : length (waiting_in c.deref.result.now) ≡ count_waiting_in_session kept_ends c.args.self.now =
    ap (λ (e : KEnd). length (waiting_in e)) c.deref.ensures ∙ ap (λ (z : Session KEnd). count_waiting_in_session kept_ends z) c.self.view_is in
    let all : c.loop.counter ≡ count_waiting_in_session kept_ends c.args.self.now = omega (arith, c.loop-test.false, c.loop.auto.counter-end, c.waiting-end.ensures.value, same) in
    takes_done (g.O.Outside.told c.args.outside.now) (g.O.Outside.told c.loop.outside) r c.args.moment c.args.self.now c.loop.self c.loop.counter all (c.loop.invariant.went r)
