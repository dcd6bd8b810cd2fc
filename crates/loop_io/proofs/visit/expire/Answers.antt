use Rattle.std.proofs.Common.{sym, ap, ◌∙◌}
use Rattle.loop_model.specs.Visits.{is_due}
use Rattle.loop_io.proofs.Writings.{expires_not, expires_closed, keep_close}
use Rattle.loop_io.proofs.visit.expire.Goals as goal

pub returns-clause-expires : goal.returns-clause-expires
returns-clause-expires g c =
    expires_not (g.O.Outside.told c.args.outside.now) c.args.when.now.moment c.args.session.now (ap (λ z. is_due c.args.when.now.moment z) (sym c.closing.ensures) ∙ sym c.is_due.ensures ∙ c.if-is_due.false)

pub returns-then-is_due-clause-expires : goal.returns-then-is_due-clause-expires
returns-then-is_due-clause-expires g c =
    expires_closed (g.O.Outside.told c.args.outside.now) (g.O.Outside.told c.close.new.self) c.args.when.now.moment c.args.session.now c.number.result
    (ap (λ z. is_due c.args.when.now.moment z) (sym c.closing.ensures) ∙ sym c.is_due.ensures ∙ c.if-is_due.true) c.number.ensures c.close.ensures.does

pub returns-then-is_due-clause-keep : goal.returns-then-is_due-clause-keep
returns-then-is_due-clause-keep g c = keep_close _ _ c.number.result c.close.ensures.does
