use Rattle.std.proofs.Common.{sym, ap, ◌∙◌, length, drop}
use Rattle.link_memory.specs.WiresMemory.{waits_at, waits_of, octets_to}
use Rattle.link_memory.proofs.Reading.{counted_waits, copied_waits}
use Rattle.link_memory.proofs.memory_wires.MemoryWires.copy_waiting.Goals as goal

pub returns-clause-count : goal.returns-clause-count
returns-clause-count c =
    counted_waits (length c.args.into.now) c.copy_brought.result c.args.line.now.taken (octets_to c.args.conn c.acts_of.result.now) (waits_at c.args.self.now c.args.conn)
    (ap (waits_of c.args.self.now.acts c.args.self.now.done c.args.conn) c.requires ∙ ap (λ acts. drop c.args.line.now.taken (octets_to c.args.conn acts)) (sym c.acts_of.ensures))
    c.copy_brought.ensures.count

pub returns-clause-copied : goal.returns-clause-copied
returns-clause-copied c =
    copied_waits (length c.args.into.now) c.copy_brought.result c.args.line.now.taken c.copy_brought.new.into (octets_to c.args.conn c.acts_of.result.now) (waits_at c.args.self.now c.args.conn)
    (ap (waits_of c.args.self.now.acts c.args.self.now.done c.args.conn) c.requires ∙ ap (λ acts. drop c.args.line.now.taken (octets_to c.args.conn acts)) (sym c.acts_of.ensures))
    c.copy_brought.ensures.count c.copy_brought.ensures.copied
