use Rattle.hdlc_pair_laws.proofs.Runs.{reasons}
use Rattle.hdlc_pair_laws.proofs.laws.losing_line_reasons.Goals as goal

pub returns : goal.returns
returns c = reasons (record { back = c.control_reads_back.ensures; parts = c.flag_parts.ensures; alone = c.frame_alone.ensures })
