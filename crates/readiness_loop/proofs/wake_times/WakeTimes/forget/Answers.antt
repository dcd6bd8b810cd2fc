use Rattle.std.proofs.Common.{false}
use Rattle.readiness_loop.proofs.WakePairs.{pair_changed}
use Rattle.readiness_loop.proofs.wake_times.WakeTimes.forget.Goals as goal

pub returns-in-Some : goal.returns-in-Some
returns-in-Some c = pair_changed c.args.self.now.pairs c.remove.new.self c.args.at c.in-Some.at c.args.number false c.in-Some.is c.remove.ensures.updates
