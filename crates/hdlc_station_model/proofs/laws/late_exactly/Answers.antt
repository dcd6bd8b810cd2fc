use Rattle.hdlc_station_model.proofs.Timing.{late_exactly}
use Rattle.hdlc_station_model.proofs.laws.late_exactly.Goals as goal

pub returns : goal.returns
returns c = late_exactly
