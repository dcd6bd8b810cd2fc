use Rattle.std.proofs.Common.{rules, ◌≡◌, ◌<◌, length, subst}
use Rattle.std.specs.Prelude.{slice_index_or}
use Rattle.mio_wires.specs.Leaving.{Leavers, staying}
use Rattle.mio_wires.proofs.Rising.{all_stay}
use Rattle.mio_wires.proofs.leavers.Leavers.first.Goals as goal

pub returns-clause-least : goal.returns-clause-least
returns-clause-least c = λ now later.
    let some : 0 < length c.self.inside.leaving.items = search rules in
    let is : c.in_ok-front.field-0.now ≡ slice_index_or c.self.inside.leaving.items 0 c.in_ok-front.field-0.now = search rules in
    subst (λ (leavers : Leavers). staying now leavers.waits ≡ leavers.waits) c.self.view_is
    (all_stay now c.self.inside.newest c.self.inside.leaving.items c.in_ok-front.field-0.now c.self.invariant some is later)
