use Rattle.loop_session.specs.Parts.{rules_of_session}
use Rattle.loop_io.proofs.Rests.{came_end, came_failed, came_nothing}
use Rattle.loop_io.proofs.reading.take_in.Goals as goal

pub returns-in-End-clause-chooses : goal.returns-in-End-clause-chooses
returns-in-End-clause-chooses g c =
    rw c.in-End.is
    (came_end (g.O.Outside.told c.args.outside.now) (g.O.Outside.told c.ended.new.outside) (rules_of_session (g.K.KeyFinder.entries c.args.keys.now) c.args.when.now.setup) c.args.when.now.moment c.args.session.now c.ended.new.self c.ended.result
    (c.ended.ensures.chooses (g.K.KeyFinder.entries c.args.keys.now)))

pub returns-in-Failed-clause-chooses : goal.returns-in-Failed-clause-chooses
returns-in-Failed-clause-chooses g c =
    rw c.in-Failed.is
    (came_failed (g.O.Outside.told c.args.outside.now) (g.O.Outside.told c.fault.new.outside) (rules_of_session (g.K.KeyFinder.entries c.args.keys.now) c.args.when.now.setup) c.args.when.now.moment c.args.session.now c.fault.new.self c.fault.result
    (c.fault.ensures.chooses (g.K.KeyFinder.entries c.args.keys.now)))

pub returns-in-NotNow-clause-chooses : goal.returns-in-NotNow-clause-chooses
returns-in-NotNow-clause-chooses g c =
    rw c.in-NotNow.is
    (came_nothing (g.O.Outside.told c.args.outside.now) (rules_of_session (g.K.KeyFinder.entries c.args.keys.now) c.args.when.now.setup) c.args.when.now.moment c.args.session.now)
