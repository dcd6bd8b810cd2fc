use Rattle.hdlc_station_model.specs.Stations.{no_deed}
use Rattle.hdlc_station_model.specs.Receiving.{takes}
use Rattle.hdlc_station.proofs.Following.{numbered, absent}
use Rattle.hdlc_station.proofs.go_back.hear_info.Goals as goal

pub returns-in_default-clause-hears : goal.returns-in_default-clause-hears
returns-in_default-clause-hears c = λ payload out out' e s before h.
    absent _ before _ _ s c.args.nr (takes c.args.ns payload) (c.in_default.ensures.named s h.is h.order h.given) (c.refuse.ensures.hears payload out out' e s before h)

pub returns-clause-hears : goal.returns-clause-hears
returns-clause-hears c = λ payload out out' e s before h.
    numbered _ before _ _ s c.args.nr _ (takes c.args.ns payload) (c.in-Some.ensures.named s h.is h.order h.given)
    (c.take.ensures.hears payload out out' e _ before (c.acknowledge.ensures.follows out s before no_deed h))
