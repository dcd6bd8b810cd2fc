use Rattle.std.proofs.Common.{rules, arith}
use Rattle.link_memory.proofs.KeptLists.{stands_new}
use Rattle.link_memory.proofs.memory_wires.MemoryWires.new.Goals as goal

pub invariant_of-result : goal.invariant_of-result
invariant_of-result c = (
  stands_new c.args.acts.items c.in_ok-with_capacity-3.field-0 c.in_ok-with_capacity.field-0 c.in_ok-with_capacity-2.field-0
      (search rules) (search rules) (search rules) (search rules) (search rules) (search rules) (search rules),
  omega arith,
  omega arith,
)
