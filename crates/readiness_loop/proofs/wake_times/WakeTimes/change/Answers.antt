use Rattle.readiness_loop.proofs.WakePairs.{kept_same}
use Rattle.readiness_loop.proofs.wake_times.WakeTimes.change.Goals as goal

pub returns-clause-same : goal.returns-clause-same
returns-clause-same c =
    kept_same c.args.self.now.pairs c.forget.new.self.pairs c.keep.new.self.pairs c.args.number c.args.before c.keep.result c.forget.ensures c.keep.ensures.same
