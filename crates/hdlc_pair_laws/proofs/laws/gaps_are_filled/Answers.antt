use Rattle.hdlc_pair_laws.proofs.Filled.{gaps_are_filled}
use Rattle.hdlc_pair_laws.proofs.laws.gaps_are_filled.Goals as goal

pub returns : goal.returns
returns c = gaps_are_filled (record { back = c.control_reads_back.ensures; parts = c.flag_parts.ensures; alone = c.frame_alone.ensures })
