use Rattle.hdlc_station_model.proofs.Gives.{inert}
use Rattle.hdlc_station_model.proofs.laws.released_are_inert.Goals as goal

pub returns : goal.returns
returns c = inert
