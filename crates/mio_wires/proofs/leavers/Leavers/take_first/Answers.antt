use Rattle.std.proofs.Common.{sym, subst}
use Rattle.mio_wires.specs.Leaving.{RisesBetween}
use Rattle.mio_wires.proofs.Rising.{dropped}
use Rattle.mio_wires.proofs.leavers.Leavers.take_first.Goals as goal

pub invariant_of-self-2 : goal.invariant_of-self-2
invariant_of-self-2 c =
    subst (λ waits. RisesBetween 0 c.self.inside.newest waits) (sym c.pop_front.ensures.rest)
    (dropped c.self.inside.newest c.self.inside.leaving.items c.self.invariant)
