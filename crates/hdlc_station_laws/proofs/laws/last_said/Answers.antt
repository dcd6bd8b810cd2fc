use Rattle.hdlc_station_laws.proofs.Causes.{last_said}
use Rattle.hdlc_station_laws.proofs.laws.last_said.Goals as goal

pub returns : goal.returns
returns c = last_said c.control_is_table.ensures c.last_frames.ensures
