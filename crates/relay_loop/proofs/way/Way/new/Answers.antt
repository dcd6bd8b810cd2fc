-- Nothing came.
use Rattle.std.proofs.Common.{refl}
use Rattle.relay_loop.proofs.WayCalls.{new_holds}
use Rattle.relay_loop.proofs.way.Way.new.Goals as goal

pub returns-clause-holds : goal.returns-clause-holds
returns-clause-holds c = λ script. new_holds script c.args.side _ refl refl c.in_ok-new.ensures.side (c.in_ok-new.ensures.stands script) c.new-3.ensures.items c.new-2.ensures.items refl
    c.in_ok-new.ensures.due
