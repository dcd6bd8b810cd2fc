use Rattle.hdlc_pair_laws.proofs.Recovered.{recovery}
use Rattle.hdlc_pair_laws.proofs.SoundRuns.{passes_release}
use Rattle.hdlc_pair_laws.proofs.laws.recovery.Goals as goal

pub returns-clause-recovered : goal.returns-clause-recovered
returns-clause-recovered c = recovery (record { back = c.control_reads_back.ensures; parts = c.flag_parts.ensures; alone = c.frame_alone.ensures })

pub returns-clause-live : goal.returns-clause-live
returns-clause-live c = passes_release (record { back = c.control_reads_back.ensures; parts = c.flag_parts.ensures; alone = c.frame_alone.ensures })
