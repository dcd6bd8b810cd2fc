use Rattle.hdlc_station.proofs.Saying.{silent}
use Rattle.hdlc_station.proofs.station_core.StationCore.drop_link.Goals as goal

pub returns-clause-hears : goal.returns-clause-hears
returns-clause-hears c = λ information out out' e s before h. silent _ before out out' _ _ (c.let_go-release.ensures.tells out s before h) e
