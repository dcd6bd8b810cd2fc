use Rattle.hdlc_pair_laws.proofs.Counted.{drain_empties}
use Rattle.hdlc_pair_laws.proofs.Delivered.{delivery_bound}
use Rattle.hdlc_pair_laws.proofs.laws.delivery_bound.Goals as goal

pub returns-clause-bound : goal.returns-clause-bound
returns-clause-bound c = delivery_bound (record { back = c.control_reads_back.ensures; parts = c.flag_parts.ensures; alone = c.frame_alone.ensures })

pub returns-clause-drain : goal.returns-clause-drain
returns-clause-drain c = drain_empties (record { back = c.control_reads_back.ensures; parts = c.flag_parts.ensures; alone = c.frame_alone.ensures })
