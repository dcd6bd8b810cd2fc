use Rattle.std.proofs.Common.{rules, refl}
use Rattle.link_memory.proofs.Comings.{comes_again}
use Rattle.link_memory.proofs.memory_wires.MemoryWires.coming.Goals as goal

pub returns-in-Some : goal.returns-in-Some
returns-in-Some c = rw (← c.self.view_is) (comes_again _ c.first_open-passed.result c.first_open-passed.result.0 c.in-Some.conn (search rules) c.in-Some.is refl (search rules) (search rules) (search rules) (search rules))
