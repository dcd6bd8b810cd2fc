use Rattle.hdlc_station_laws.proofs.GivingUp.{gives_up}
use Rattle.hdlc_station_laws.proofs.laws.gives_up.Goals as goal

pub returns : goal.returns
returns c = gives_up c.late_exactly.ensures c.releases_have_causes.ensures.each c.releases_have_causes.ensures.only
