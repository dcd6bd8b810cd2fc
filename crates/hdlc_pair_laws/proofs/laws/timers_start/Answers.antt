use Rattle.hdlc_pair_laws.proofs.StartingCalls.{timers_start}
use Rattle.hdlc_pair_laws.proofs.laws.timers_start.Goals as goal

pub returns : goal.returns
returns c = timers_start
