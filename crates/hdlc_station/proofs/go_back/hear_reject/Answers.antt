use Rattle.std.proofs.Common.{false}
use Rattle.hdlc_station_model.specs.Stations.{no_deed}
use Rattle.hdlc_station_model.specs.Receiving.{marks_busy, repeats_rejected}
use Rattle.hdlc_station.proofs.Following.{numbered, absent}
use Rattle.hdlc_station.proofs.go_back.hear_reject.Goals as goal

pub returns-in_default-clause-hears : goal.returns-in_default-clause-hears
returns-in_default-clause-hears c = λ information out out' e s before h.
    absent _ before _ _ s c.args.nr (λ t. repeats_rejected (marks_busy false t)) (c.in_default.ensures.named s h.is h.order h.given) (c.refuse.ensures.hears information out out' e s before h)

pub returns-clause-hears : goal.returns-clause-hears
returns-clause-hears c = λ information out out' e s before h.
    numbered _ before _ _ s c.args.nr _ (λ t. repeats_rejected (marks_busy false t)) (c.in-Some.ensures.named s h.is h.order h.given)
    (c.repeat_rejected.ensures.answers out out' e _ before no_deed (c.mark_busy.ensures.follows out _ before no_deed (c.acknowledge.ensures.follows out s before no_deed h)))
