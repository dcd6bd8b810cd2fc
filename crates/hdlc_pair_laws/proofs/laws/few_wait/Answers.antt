use Rattle.hdlc_pair_laws.proofs.Counted.{few_wait}
use Rattle.hdlc_pair_laws.proofs.laws.few_wait.Goals as goal

pub returns : goal.returns
returns c = few_wait (record { back = c.control_reads_back.ensures; parts = c.flag_parts.ensures; alone = c.frame_alone.ensures })
