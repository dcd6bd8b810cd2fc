use Rattle.hdlc_pair_laws.proofs.Runs.{prefix}
use Rattle.hdlc_pair_laws.proofs.laws.prefix.Goals as goal

pub returns : goal.returns
returns c = prefix (record { back = c.control_reads_back.ensures; parts = c.flag_parts.ensures; alone = c.frame_alone.ensures })
