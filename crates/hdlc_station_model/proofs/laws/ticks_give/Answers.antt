use Rattle.hdlc_station_model.proofs.Gives.{ticks_give}
use Rattle.hdlc_station_model.proofs.laws.ticks_give.Goals as goal

pub returns : goal.returns
returns c = ticks_give
