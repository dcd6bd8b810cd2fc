use Rattle.std.proofs.lemmas.Result.{err_from_is_err_and}
use Rattle.loop_model.specs.Sessions.{Begins}
use Rattle.loop_session.specs.Parts.{rules_of_session}
use Rattle.loop_io.specs.Seeing.{seen}
use Rattle.loop_io.proofs.Rests.{serves, serves_broke}
use Rattle.loop_io.proofs.visit.begin_call.Goals as goal

pub returns-in_err-call-clause-does : goal.returns-in_err-call-clause-does
returns-in_err-call-clause-does g c =
    let p = err_from_is_err_and c.from_residual.result c.from_residual.ensures.1 in
    rw (p.1, p.2)
    (serves_broke (g.O.Outside.told c.args.outside.now) (g.O.Outside.told c.call.new.outside) (rules_of_session (g.K.KeyFinder.entries c.args.keys.now) c.args.when.now.setup) c.args.when.now.moment c.args.session.now (Begins c.args.call.now.engine c.args.call.now.rbc c.args.call.now.rb) c.in_err-call.field-0.0 (c.in_err-call.ensures.chooses (g.K.KeyFinder.entries c.args.keys.now)))

pub returns-clause-does : goal.returns-clause-does
returns-clause-does g c =
    let entries = g.K.KeyFinder.entries c.args.keys.now in
    serves (g.O.Outside.told c.args.outside.now) (g.O.Outside.told c.call.new.outside) (seen (g.O.Outside.told c.rest.new.outside)) (rules_of_session (g.K.KeyFinder.entries c.args.keys.now) c.args.when.now.setup) c.args.when.now.moment c.args.session.now c.call.new.self c.rest.new.session (Begins c.args.call.now.engine c.args.call.now.rbc c.args.call.now.rb) c.rest.result
    (c.in_ok-call.ensures.chooses entries) (c.rest.ensures.does entries)
