use Rattle.hdlc_station_laws.proofs.Giving.{frames_give_of_kind, frames_tell_release}
use Rattle.hdlc_station_laws.proofs.laws.frames_give.Goals as goal

pub returns-clause-payloads : goal.returns-clause-payloads
returns-clause-payloads c = frames_give_of_kind c.receives_give.ensures

pub returns-clause-releases : goal.returns-clause-releases
returns-clause-releases c = frames_tell_release c.releases_are_told.ensures.calls
