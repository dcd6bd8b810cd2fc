use Rattle.std.proofs.Common.{ap, ◌∙◌, arith}
use Rattle.hdlc_station.specs.Stations.{StationKept, is_selective}
use Rattle.er_end.proofs.FrameRooms.{hand_keeps}
use Rattle.er_end.proofs.line.Line.hand.Goals as goal

pub invariant_of-self : goal.invariant_of-self
invariant_of-self c =
    let i : _ = c.self.invariant in
    let e : _ = c.hand-handed.ensures in
    let w : _ = e.within in (
      w.capacity ∙ i.0,
      omega (arith, w.window, i.1),
      w.near,
      hand_keeps _ _ _ _ _ _ c.hand-handed.result e.does e.unchanged e.unwritten e.grows w e.sent i.3,
      ap (λ (k : StationKept). is_selective k) e.same ∙ i.4,
    )
