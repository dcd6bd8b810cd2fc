use Rattle.std.proofs.lemmas.Result.{err_from_is_err_and}
use Rattle.loop_session.specs.Parts.{rules_of_session}
use Rattle.loop_io.specs.Seeing.{seen}
use Rattle.loop_io.proofs.Rests.{rests_broke, rests_done}
use Rattle.loop_io.proofs.writing.rest.Goals as goal

pub returns-in_err-write_out-clause-does : goal.returns-in_err-write_out-clause-does
returns-in_err-write_out-clause-does g c = λ entries.
    let p = err_from_is_err_and c.from_residual.result c.from_residual.ensures.1 in
    rw (p.1, p.2)
    (rests_broke (seen (g.O.Outside.told c.args.outside.now)) (seen (g.O.Outside.told c.write_out.new.outside)) (rules_of_session entries c.args.when.now.setup) c.args.when.now.moment c.args.session.now c.in_err-write_out.field-0.0 (c.in_err-write_out.ensures.does entries))

pub returns-clause-does : goal.returns-clause-does
returns-clause-does g c = λ entries.
    rests_done (seen (g.O.Outside.told c.args.outside.now)) (g.O.Outside.told c.write_out.new.outside) (g.O.Outside.told c.settle.new.outside)
    (rules_of_session entries c.args.when.now.setup) c.args.when.now.moment c.args.session.now c.write_out.new.session c.settle.result (c.in_ok-write_out.ensures.does entries) c.settle.ensures.settles
