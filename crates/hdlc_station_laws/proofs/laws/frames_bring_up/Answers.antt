use Rattle.hdlc_station_laws.proofs.BringingUp.{frames_bring_up}
use Rattle.hdlc_station_laws.proofs.laws.frames_bring_up.Goals as goal

pub returns : goal.returns
returns c = frames_bring_up c.control_is_table.ensures
