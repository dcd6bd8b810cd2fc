use Rattle.hdlc_pair_laws.proofs.Giving.{frames_give}
use Rattle.hdlc_pair_laws.proofs.EachEnd.{recovery_in_turn}
use Rattle.hdlc_pair_laws.proofs.laws.recovery_in_turn.Goals as goal

pub returns : goal.returns
returns c =
    recovery_in_turn (record { back = c.control_reads_back.ensures; parts = c.flag_parts.ensures; alone = c.frame_alone.ensures })
    (frames_give c.receives_give.ensures c.releases_are_told.ensures.calls c.released_are_inert.ensures)
