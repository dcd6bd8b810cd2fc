use Rattle.std.proofs.Common.{◌≡◌}
use Rattle.er_end_model.specs.Steps.{hand_waiting_tpdus}
use Rattle.er_end.specs.KeptLayers.{kept}
use Rattle.er_end.proofs.layers.Layers.hand_waiting.Given as goal

abbrev pub invariant-loop-left : goal.invariant-loop-left
invariant-loop-left l = hand_waiting_tpdus kept l.left l.self ≡ hand_waiting_tpdus kept 33 l.fn.self

abbrev pub decreases-loop-left : goal.decreases-loop-left
decreases-loop-left l = l.left
