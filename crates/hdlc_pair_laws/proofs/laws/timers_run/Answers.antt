use Rattle.hdlc_pair_laws.proofs.Recovered.{renewal}
use Rattle.hdlc_pair_laws.proofs.SoundRuns.{timers_run}
use Rattle.hdlc_pair_laws.proofs.laws.timers_run.Goals as goal

pub returns-clause-exactly : goal.returns-clause-exactly
returns-clause-exactly c = timers_run (record { back = c.control_reads_back.ensures; parts = c.flag_parts.ensures; alone = c.frame_alone.ensures })

pub returns-clause-renewed : goal.returns-clause-renewed
returns-clause-renewed c = renewal (record { back = c.control_reads_back.ensures; parts = c.flag_parts.ensures; alone = c.frame_alone.ensures })
