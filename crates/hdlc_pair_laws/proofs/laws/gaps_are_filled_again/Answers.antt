use Rattle.hdlc_pair_laws.proofs.FilledAgain.{gaps_are_filled_again}
use Rattle.hdlc_pair_laws.proofs.laws.gaps_are_filled_again.Goals as goal

pub returns : goal.returns
returns c = gaps_are_filled_again (record { back = c.control_reads_back.ensures; parts = c.flag_parts.ensures; alone = c.frame_alone.ensures })
