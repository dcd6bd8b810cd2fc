use Rattle.hdlc_station_model.proofs.Timing.{timers_stop}
use Rattle.hdlc_station_model.proofs.laws.timers_stop.Goals as goal

pub returns : goal.returns
returns c = timers_stop
