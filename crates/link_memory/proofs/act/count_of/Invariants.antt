use Rattle.std.proofs.Common.{◌+◌, ◌*◌, ◌^◌, ◌≤◌, ◌≡◌, length, drop}
use Rattle.link_memory.specs.WiresMemory.{octets_to}
use Rattle.link_memory.proofs.act.count_of.Given as goal

abbrev pub invariant-loop-act : goal.invariant-loop-act
invariant-loop-act l = record {
  count : l.count + length (octets_to l.fn.conn (drop l.act-index l.acts)) ≡ length (octets_to l.fn.conn l.acts);
  small : l.count ≤ l.act-index * 2 ^ 64;
}
