use Rattle.hdlc_station_model.specs.Stations.{no_deed}
use Rattle.hdlc_station.proofs.Saying.{silent}
use Rattle.hdlc_station.proofs.station_core.StationCore.agreed.Goals as goal

pub returns-clause-hears : goal.returns-clause-hears
returns-clause-hears c = λ information out out' e s before h.
    silent _ before out out' _ _ (c.come_up.ensures.tells out _ before (c.stop_timer.ensures.follows out s before no_deed h)) e
