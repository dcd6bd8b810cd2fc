use Rattle.std.proofs.Common.{option_map, sym, refl, ap, ◌∙◌}
use Rattle.er_end.specs.KeptEnds.{KEnd}
use Rattle.er_end.specs.Shown.{refusal_view}
use Rattle.loop_session.specs.Keeping.{kept_ends}
use Rattle.std.proofs.lemmas.Result.{err_from_is_err_and}
use Rattle.loop_model.specs.Sessions.{Session, Sends, refusal_heard, notes, replied}
use Rattle.loop_session.proofs.Written.{gave_mind, sent_prints, prints_wanted}
use Rattle.loop_session.proofs.session.Session.send.Goals as goal

pub returns-clause-prints : goal.returns-clause-prints
returns-clause-prints g c = λ r.
    let gave = c.in_ok-came.ensures.gave r refl in
    let heard = c.hear_refused.ensures ∙ ap (λ (z : Session KEnd). notes (refusal_heard c.args.text.now (option_map refusal_view c.in_ok-came.came.refused)) z.mind) c.self.view_is in
    sent_prints (g.O.Outside.told c.args.outside.now) (g.O.Outside.told c.tell.new.outside)
    r c.args.moment c.args.self.now c.give.new.self _ c.tell.new.self c.args.text.now _ c.in_ok-came.came c.tell.result c.give.ensures.mind heard gave
    (c.tell.ensures.prints r c.args.self.now (Sends c.args.text.now) (gave_mind r c.args.moment c.args.self.now c.give.new.self _ (Sends c.args.text.now) _ _ _ (sym c.self.view_is) gave))

pub returns-in_err-came-clause-prints : goal.returns-in_err-came-clause-prints
returns-in_err-came-clause-prints g c = λ r.
    let p = err_from_is_err_and c.from_residual.result c.from_residual.ensures.1 in
    prints_wanted (g.O.Outside.told c.args.outside.now) _ (replied kept_ends r c.args.moment c.args.self.now (Sends c.args.text.now)) c.from_residual.result p.0 _ p.1 p.2
