use Rattle.hdlc_station_laws.proofs.UsingWindows.{windows_are_used}
use Rattle.hdlc_station_laws.proofs.laws.windows_are_used.Goals as goal

pub returns : goal.returns
returns c = windows_are_used
