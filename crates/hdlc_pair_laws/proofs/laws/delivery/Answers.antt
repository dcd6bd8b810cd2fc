use Rattle.hdlc_pair_laws.proofs.Delivered.{delivery}
use Rattle.hdlc_pair_laws.proofs.laws.delivery.Goals as goal

pub returns : goal.returns
returns c = delivery (record { back = c.control_reads_back.ensures; parts = c.flag_parts.ensures; alone = c.frame_alone.ensures })
