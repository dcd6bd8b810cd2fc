use Rattle.std.proofs.Common.{◌+◌, ◌≡◌, drop}
use Rattle.link_memory.specs.WiresMemory.{first_open}
use Rattle.link_memory.proofs.memory_line.first_open.Given as goal

abbrev pub invariant-loop-conn : goal.invariant-loop-conn
invariant-loop-conn l = record {
  passed : l.passed ≡ l.conn-index;
  first : first_open l.lines l.conns ≡ (l.conn-index + (first_open l.lines (drop l.conn-index l.conns)).0, (first_open l.lines (drop l.conn-index l.conns)).1);
}
