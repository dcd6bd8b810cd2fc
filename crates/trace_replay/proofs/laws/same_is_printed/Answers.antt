use Rattle.trace_replay.proofs.Printing.{same_is_printed}
use Rattle.trace_replay.proofs.laws.same_is_printed.Goals as goal

pub returns : goal.returns
returns c = same_is_printed
