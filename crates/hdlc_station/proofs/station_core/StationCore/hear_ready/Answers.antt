use Rattle.hdlc_station_model.specs.Stations.{no_deed}
use Rattle.hdlc_station_model.specs.Receiving.{marks_busy}
use Rattle.hdlc_station.proofs.Following.{numbered, absent}
use Rattle.hdlc_station.proofs.Saying.{silent}
use Rattle.hdlc_station.proofs.station_core.StationCore.hear_ready.Goals as goal

pub returns-in_default-clause-hears : goal.returns-in_default-clause-hears
returns-in_default-clause-hears c = λ information out out' e s before h.
    absent _ before _ _ s c.args.nr (marks_busy c.args.busy) (c.in_default.ensures.named s h.is h.order h.given) (c.refuse.ensures.hears information out out' e s before h)

pub returns-clause-hears : goal.returns-clause-hears
returns-clause-hears c = rw c.nothing.ensures (λ information out out' e s before h.
    numbered _ before _ _ s c.args.nr _ (marks_busy c.args.busy) (c.in-Some.ensures.named s h.is h.order h.given)
    (silent _ before out out' _ _ (c.mark_busy.ensures.follows out _ before no_deed (c.acknowledge.ensures.follows out s before no_deed h)) e))
