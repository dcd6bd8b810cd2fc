use Rattle.std.proofs.Common.{refl, sym, subst}
use Rattle.link_memory.proofs.KeptLists.{stands_stay}
use Rattle.link_memory.specs.KeptCalls.{StaysOpen}
use Rattle.link_memory.proofs.memory_wires.MemoryWires.put.Goals as goal

pub invariant_of-self : goal.invariant_of-self
invariant_of-self c =
    let stays : StaysOpen c.self.inside.lines.items c.args.conn c.args.line = subst (λ s. StaysOpen s.lines c.args.conn c.args.line) (sym c.self.view_is) c.requires in (
      stands_stay c.self.inside.acts.items c.self.inside.record c.self.inside.lines _ c.self.inside.again c.args.conn c.args.line c.self.invariant.0 stays refl refl refl,
      c.self.invariant.1,
      c.self.invariant.2,
    )
