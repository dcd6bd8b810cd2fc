use Rattle.hdlc_station_laws.proofs.Filing.{gaps_of_calls}
use Rattle.hdlc_station_laws.proofs.laws.gaps_of_calls.Goals as goal

pub returns : goal.returns
returns c = gaps_of_calls c.control_is_table.ensures
