use Rattle.std.proofs.Common.{sym, ap, ◌∙◌}
use Rattle.link_memory.proofs.Comings.{comes_listens}
use Rattle.link_memory.proofs.memory_wires.MemoryWiresWires.turn.Goals as goal

pub returns-then-places_of-eq2-clause-accepted : goal.returns-then-places_of-eq2-clause-accepted
returns-then-places_of-eq2-clause-accepted c = λ conn is. ap (λ s. s.listening) (sym c.begin.ensures.called) ∙ comes_listens c.begin.new.self c.coming-coming.result conn c.coming-coming.ensures is
