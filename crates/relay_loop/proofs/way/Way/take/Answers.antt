-- By the carrier.
use Rattle.relay_loop.proofs.WayCalls.{takes_seen}
use Rattle.relay_loop.proofs.way.Way.take.Goals as goal

pub returns-clause-takes : goal.returns-clause-takes
returns-clause-takes c =
    takes_seen c.closed_stays.ensures c.args.script.now c.args.self.now c.see.new.self _ c.take.new.self c.args.moment _ _ _ c.see.ensures.new c.see.ensures.later
    c.see.ensures.at c.requires.alive c.requires.unended c.requires.unclosed c.in_ok-taken.ensures.given c.in_ok-taken.ensures.prompt c.in_ok-taken.ensures.newest c.in_ok-taken.ensures.side
    c.in_ok-keep.ensures
