use Rattle.hdlc_station_model.proofs.Releasing.{last_frames}
use Rattle.hdlc_station_model.proofs.laws.last_frames.Goals as goal

pub returns : goal.returns
returns c = last_frames c.control_is_table.ensures
