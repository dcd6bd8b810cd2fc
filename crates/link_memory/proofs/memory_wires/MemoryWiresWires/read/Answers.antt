use Rattle.std.proofs.Common.{rules, ◌<◌, length}
use Rattle.link_memory.specs.WiresMemory.{waits_at}
use Rattle.link_memory.proofs.Reading.{read_fits}
use Rattle.link_memory.proofs.memory_wires.MemoryWiresWires.read.Goals as goal

pub returns-then-count-waiting-clause-fits : goal.returns-then-count-waiting-clause-fits
returns-then-count-waiting-clause-fits c = λ n is.
    let some : 0 < c.waiting-waiting.result = search rules in
    read_fits (length c.args.into.now) c.copy_waiting-count.result c.waiting-waiting.result n (waits_at c.begin-is_to_fail.new.self c.args.conn.0)
    c.waiting-waiting.ensures.waits some c.requires c.copy_waiting-count.ensures.count is
