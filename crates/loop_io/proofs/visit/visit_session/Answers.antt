use Rattle.std.proofs.Common.{sym, ◌∙◌}
use Rattle.loop_session.specs.Parts.{rules_of_session}
use Rattle.loop_io.specs.Seeing.{seen}
use Rattle.loop_io.proofs.Rests.{visit_not_read, visit_read, visit_write, visit_expire}
use Rattle.loop_io.proofs.visit.visit_session.Goals as goal

pub returns-in-Tick-clause-does : goal.returns-in-Tick-clause-does
returns-in-Tick-clause-does g c = rw c.in-Tick.is (c.tick.ensures.does (g.K.KeyFinder.entries c.args.keys.now))

pub returns-then-is_released-clause-does : goal.returns-then-is_released-clause-does
returns-then-is_released-clause-does g c = rw c.in-Read.is (visit_not_read (seen (g.O.Outside.told c.args.outside.now)) (rules_of_session (g.K.KeyFinder.entries c.args.keys.now) c.args.when.now.setup) c.args.when.now.moment c.args.session.now (sym c.is_released.ensures ∙ c.if-is_released.true))

pub returns-else-is_released-clause-does : goal.returns-else-is_released-clause-does
returns-else-is_released-clause-does g c =
    rw c.in-Read.is (visit_read (seen (g.O.Outside.told c.args.outside.now)) (seen (g.O.Outside.told c.read.new.outside)) (rules_of_session (g.K.KeyFinder.entries c.args.keys.now) c.args.when.now.setup) c.args.when.now.moment c.args.session.now c.note_made.new.self c.read.new.session c.read.result (sym c.is_released.ensures ∙ c.if-is_released.false) c.note_made.ensures c.read.ensures.does)

pub returns-in-Write-clause-does : goal.returns-in-Write-clause-does
returns-in-Write-clause-does g c =
    rw c.in-Write.is (visit_write (seen (g.O.Outside.told c.args.outside.now)) (seen (g.O.Outside.told c.rest.new.outside)) (rules_of_session (g.K.KeyFinder.entries c.args.keys.now) c.args.when.now.setup) c.args.when.now.moment c.args.session.now c.note_made-in-Write.new.self c.rest.new.session c.rest.result c.note_made-in-Write.ensures (c.rest.ensures.does (g.K.KeyFinder.entries c.args.keys.now)))

pub returns-in-Expire-clause-does : goal.returns-in-Expire-clause-does
returns-in-Expire-clause-does g c =
    rw c.in-Expire.is (visit_expire (g.O.Outside.told c.args.outside.now) (g.O.Outside.told c.expire.new.outside) (rules_of_session (g.K.KeyFinder.entries c.args.keys.now) c.args.when.now.setup) c.args.when.now.moment c.args.session.now c.expire.result c.expire.ensures.expires)
