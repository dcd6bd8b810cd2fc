use Rattle.hdlc_station_laws.proofs.Counting.{settings_stay}
use Rattle.hdlc_station_laws.proofs.laws.settings_stay.Goals as goal

pub returns : goal.returns
returns c = settings_stay c.late_exactly.ensures
