use Rattle.hdlc_pair_laws.proofs.Keeping.{calls_keep}
use Rattle.hdlc_pair_laws.proofs.Telling.{receives_tell, ticks_tell, phases_stay}
use Rattle.hdlc_pair_laws.proofs.laws.calls_keep.Goals as goal

pub returns-clause-pair : goal.returns-clause-pair
returns-clause-pair c = calls_keep c.control_reads_back.ensures c.flag_parts.ensures c.frame_alone.ensures

pub returns-clause-receives : goal.returns-clause-receives
returns-clause-receives c = receives_tell

pub returns-clause-ticks : goal.returns-clause-ticks
returns-clause-ticks c = ticks_tell

pub returns-clause-phases : goal.returns-clause-phases
returns-clause-phases c = phases_stay
