use Rattle.hdlc_station_laws.proofs.AskingOnce.{asks_once}
use Rattle.hdlc_station_laws.proofs.laws.asks_once.Goals as goal

pub returns : goal.returns
returns c = asks_once c.control_is_table.ensures c.gaps_of_calls.ensures c.frames_have_causes.ensures.each c.settings_stay.ensures
