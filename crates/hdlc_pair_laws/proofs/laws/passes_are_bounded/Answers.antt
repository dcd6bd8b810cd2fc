use Rattle.hdlc_pair_laws.proofs.Lasting.{passes_bounded, drain_empties}
use Rattle.hdlc_pair_laws.proofs.laws.passes_are_bounded.Goals as goal

pub returns-clause-passes : goal.returns-clause-passes
returns-clause-passes c = passes_bounded (record { back = c.control_reads_back.ensures; parts = c.flag_parts.ensures; alone = c.frame_alone.ensures })

pub returns-clause-drain : goal.returns-clause-drain
returns-clause-drain c = drain_empties (record { back = c.control_reads_back.ensures; parts = c.flag_parts.ensures; alone = c.frame_alone.ensures })
