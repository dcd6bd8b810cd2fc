use Rattle.std.proofs.Common.{sym, ◌∙◌}
use Rattle.loop_session.specs.Parts.{rules_of_session}
use Rattle.loop_io.specs.Seeing.{seen}
use Rattle.loop_io.proofs.Rests.{written_broken, written_going, written_off, written_released, written_fault}
use Rattle.loop_io.proofs.writing.write_out.Goals as goal

pub returns-then-is_broken-clause-does : goal.returns-then-is_broken-clause-does
returns-then-is_broken-clause-does g c = λ entries. written_broken (seen (g.O.Outside.told c.args.outside.now)) (rules_of_session entries c.args.when.now.setup) c.args.when.now.moment c.args.session.now (sym c.is_broken.ensures ∙ c.if-is_broken.true)

pub returns-in-Going-clause-does : goal.returns-in-Going-clause-does
returns-in-Going-clause-does g c = λ entries. written_going (g.O.Outside.told c.args.outside.now) (g.O.Outside.told c.write_all.new.outside) (rules_of_session entries c.args.when.now.setup) c.args.when.now.moment c.args.session.now c.write_all.new.session (sym c.is_broken.ensures ∙ c.if-is_broken.false) c.in-Going.ensures.wrote

pub returns-in-PutOff-clause-does : goal.returns-in-PutOff-clause-does
returns-in-PutOff-clause-does g c = λ entries. written_off (g.O.Outside.told c.args.outside.now) (g.O.Outside.told c.write_all.new.outside) (rules_of_session entries c.args.when.now.setup) c.args.when.now.moment c.args.session.now c.write_all.new.session (sym c.is_broken.ensures ∙ c.if-is_broken.false) c.in-PutOff.ensures.wrote

pub returns-then-is_released-clause-does : goal.returns-then-is_released-clause-does
returns-then-is_released-clause-does g c = λ entries.
    written_released (g.O.Outside.told c.args.outside.now) (g.O.Outside.told c.write_all.new.outside) (rules_of_session entries c.args.when.now.setup) c.args.when.now.moment c.args.session.now c.write_all.new.session c.break_off.new.self (sym c.is_broken.ensures ∙ c.if-is_broken.false) c.in-Failing.ensures.wrote
    (sym c.is_released.ensures ∙ c.if-is_released.true) c.break_off.ensures

pub returns-else-is_released-clause-does : goal.returns-else-is_released-clause-does
returns-else-is_released-clause-does g c = λ entries.
    written_fault (g.O.Outside.told c.args.outside.now) (g.O.Outside.told c.write_all.new.outside) (g.O.Outside.told c.fault.new.outside) (rules_of_session entries c.args.when.now.setup) c.args.when.now.moment c.args.session.now c.write_all.new.session c.fault.new.self c.fault.result (sym c.is_broken.ensures ∙ c.if-is_broken.false) c.in-Failing.ensures.wrote
    (sym c.is_released.ensures ∙ c.if-is_released.false) (c.fault.ensures.chooses entries)
