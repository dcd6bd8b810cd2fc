use Rattle.er_end_pair_laws.proofs.RepairedInTurn.{recovery_in_turn}
use Rattle.er_end_pair_laws.proofs.laws.recovery_in_turn.Goals as goal

pub returns : goal.returns
returns c = recovery_in_turn (record { below = c.laws_below.ensures; keep = c.mending_keeps.ensures.calls }) c.mending_keeps.ensures.done c.mending_keeps.ensures.one_way
