use Rattle.hdlc_station_model.proofs.Gives.{receives_give}
use Rattle.hdlc_station_model.proofs.laws.receives_give.Goals as goal

pub returns : goal.returns
returns c = receives_give
