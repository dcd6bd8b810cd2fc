use Rattle.std.proofs.Common.{◌≤◌, ◌≡◌, ◌++◌, length, drop, take}
use Rattle.link_memory.specs.WiresMemory.{octets_to}
use Rattle.link_memory.proofs.act.copy_brought.Given as goal

abbrev pub invariant-loop-act : goal.invariant-loop-act
invariant-loop-act l = record {
  same : length l.into ≡ length l.fn.into;
  most : l.filled ≤ length l.into;
  copied : take (length l.fn.into) (take l.filled l.into ++ drop l.passed (octets_to l.fn.conn (drop l.act-index l.acts)))
      ≡ take (length l.fn.into) (drop l.fn.taken (octets_to l.fn.conn l.acts));
}
