-- Nothing was named.
use Rattle.std.proofs.Common.{[]}
use Rattle.trace_replay.proofs.Running.{none_behind}
use Rattle.trace_replay.proofs.run.Replaying.new.Goals as goal

pub returns : goal.returns
returns c = λ settings finds. none_behind settings finds [] _ c.new.ensures.live c.new.ensures.over c.new-2.ensures
