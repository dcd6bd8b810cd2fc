use Rattle.hdlc_station_model.specs.Stations.{no_deed}
use Rattle.hdlc_station_model.specs.Sending.{refuses_frame}
use Rattle.hdlc_station_model.specs.Selective.{files}
use Rattle.hdlc_station.proofs.Keeping.{keeps_refuses, keeps_acknowledges}
use Rattle.hdlc_station.proofs.Moving.{numbered, absent, row_hears, lifts}
use Rattle.hdlc_station.proofs.selective.hear_info.Goals as goal

pub returns-in_default-clause-hears : goal.returns-in_default-clause-hears
returns-in_default-clause-hears c = λ out out' after w s before h.
    absent _ _ before _ _ s c.args.nr (files c.args.ns c.args.payload.now) (c.in_default.ensures.named s h.stands.is h.stands.order h.stands.given)
    (row_hears c.args.payload.now _ _ _ c.refuse.result c.of.result refuses_frame c.of.ensures c.refuse.ensures.hears keeps_refuses out out' after w s before h)

pub returns-clause-hears : goal.returns-clause-hears
returns-clause-hears c = λ out out' after w s before h.
    numbered _ _ before _ _ s c.args.nr _ (files c.args.ns c.args.payload.now) (c.in-Some.ensures.named s h.stands.is h.stands.order h.stands.given)
    (c.file.ensures.hears out out' after w _ before (lifts _ _ _ before _ _ no_deed no_deed s _ h (c.acknowledge.ensures.follows out s before no_deed h.stands) (keeps_acknowledges _ s)))
