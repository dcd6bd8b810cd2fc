use Rattle.readiness_loop.proofs.WakePairs.{first_pair}
use Rattle.readiness_loop.proofs.wake_times.WakeTimes.first.Goals as goal

pub returns-in-Some : goal.returns-in-Some
returns-in-Some c = first_pair c.args.self.now.pairs c.in-Some.pair.now c.in-Some.ensures.member c.in-Some.ensures.least
