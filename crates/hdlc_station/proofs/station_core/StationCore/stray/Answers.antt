use Rattle.hdlc_station_model.specs.Stations.{no_deed}
use Rattle.hdlc_station.proofs.Saying.{silent}
use Rattle.hdlc_station.proofs.station_core.StationCore.stray.Goals as goal

pub returns-clause-hears : goal.returns-clause-hears
returns-clause-hears c =
    rw c.nothing.ensures (λ information out out' e s before h. silent _ before out out' _ _ (c.count_stray.ensures.follows out s before no_deed h) e)
