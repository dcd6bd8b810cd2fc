use Rattle.std.proofs.Common.{true}
use Rattle.readiness_loop.proofs.WakePairs.{pair_changed, pair_same, on_err}
use Rattle.readiness_loop.proofs.wake_times.WakeTimes.keep.Goals as goal

pub returns-in_ok-insert-clause-kept : goal.returns-in_ok-insert-clause-kept
returns-in_ok-insert-clause-kept c = pair_changed c.args.self.now.pairs c.insert.new.self c.args.at c.in-Some.at c.args.number true c.in-Some.is c.in_ok-insert.ensures.updates

pub returns-in_err-insert-clause-same : goal.returns-in_err-insert-clause-same
returns-in_err-insert-clause-same c = on_err _ (pair_same c.args.self.now.pairs c.insert.new.self c.in_err-insert.ensures.err)
