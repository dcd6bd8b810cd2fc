-- Nothing is told of the others.
use Rattle.trace_replay.proofs.Givings.{nothing_told}
use Rattle.trace_replay.proofs.gives.tell_over.Goals as goal

pub returns-in_default : goal.returns-in_default
returns-in_default c =
    nothing_told c.args.entry.now.conn c.args.why c.args.entry.now.event c.args.out.now.items c.in_default.not-Send c.in_default.not-Take
