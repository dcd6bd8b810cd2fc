use Rattle.std.proofs.Common.{◌≡◌, subst}
use Rattle.hdlc_station_model.specs.Calls.{may_send}
use Rattle.hdlc_station.specs.Stations.{StationKept}
use Rattle.hdlc_station.specs.Alike.{model_of}
use Rattle.hdlc_station.proofs.Alikes.{shown_made}
use Rattle.hdlc_station.proofs.station.Station.may_send.Goals as goal

pub returns-clause-kept : goal.returns-clause-kept
returns-clause-kept c =
    subst (λ (k : StationKept). c.may_send.result ≡ may_send (model_of k.core)) c.self.view_is
    (shown_made c.self.inside.core (λ s. c.may_send.result ≡ may_send s) c.bounds.ensures.ranged c.may_send.ensures.shown)
