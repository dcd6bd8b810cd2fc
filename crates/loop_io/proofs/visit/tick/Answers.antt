use Rattle.std.proofs.Common.{sym, ap, ◌∙◌}
use Rattle.std.proofs.lemmas.Result.{err_from_is_err_and}
use Rattle.loop_model.specs.Sessions.{Ticks}
use Rattle.loop_model.specs.Visits.{is_due}
use Rattle.loop_session.specs.Parts.{rules_of_session}
use Rattle.loop_io.specs.Seeing.{seen}
use Rattle.loop_io.proofs.Rests.{tick_not, tick_serves, tick_broke, serves, serves_broke}
use Rattle.loop_io.proofs.visit.tick.Goals as goal

pub returns-clause-does : goal.returns-clause-does
returns-clause-does g c = λ entries. tick_not (seen (g.O.Outside.told c.args.outside.now)) (rules_of_session entries c.args.when.now.setup) c.args.when.now.moment c.args.session.now (ap (λ z. is_due c.args.when.now.moment z) (sym c.deadline.ensures) ∙ sym c.is_due.ensures ∙ c.if-is_due.false)

pub returns-in_err-tick-clause-does : goal.returns-in_err-tick-clause-does
returns-in_err-tick-clause-does g c = λ entries.
    let p = err_from_is_err_and c.from_residual.result c.from_residual.ensures.1 in
    rw (p.1, p.2)
    (tick_broke (seen (g.O.Outside.told c.args.outside.now)) (seen (g.O.Outside.told c.tick.new.outside)) (rules_of_session entries c.args.when.now.setup) c.args.when.now.moment c.args.session.now c.in_err-tick.field-0.0 (ap (λ z. is_due c.args.when.now.moment z) (sym c.deadline.ensures) ∙ sym c.is_due.ensures ∙ c.if-is_due.true)
    (serves_broke (g.O.Outside.told c.args.outside.now) (g.O.Outside.told c.tick.new.outside) (rules_of_session entries c.args.when.now.setup) c.args.when.now.moment c.args.session.now Ticks c.in_err-tick.field-0.0 (c.in_err-tick.ensures.chooses entries)))

pub returns-then-is_due-clause-does : goal.returns-then-is_due-clause-does
returns-then-is_due-clause-does g c = λ entries.
    tick_serves (seen (g.O.Outside.told c.args.outside.now)) (seen (g.O.Outside.told c.rest.new.outside)) (rules_of_session entries c.args.when.now.setup) c.args.when.now.moment c.args.session.now c.rest.new.session c.rest.result (ap (λ z. is_due c.args.when.now.moment z) (sym c.deadline.ensures) ∙ sym c.is_due.ensures ∙ c.if-is_due.true)
    (serves (g.O.Outside.told c.args.outside.now) (g.O.Outside.told c.tick.new.outside) (seen (g.O.Outside.told c.rest.new.outside)) (rules_of_session entries c.args.when.now.setup) c.args.when.now.moment c.args.session.now c.tick.new.self c.rest.new.session Ticks c.rest.result
    (c.in_ok-tick.ensures.chooses entries) (c.rest.ensures.does entries))
