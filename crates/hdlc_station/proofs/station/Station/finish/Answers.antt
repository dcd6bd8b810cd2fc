use Rattle.std.proofs.Common.{subst}
use Rattle.hdlc_station_model.specs.Stations.{no_deed}
use Rattle.hdlc_station_model.specs.Calls.{finishes}
use Rattle.hdlc_station.specs.Stations.{StationKept, FollowsStep}
use Rattle.hdlc_station.specs.Alike.{model_of, DoesStationCall}
use Rattle.hdlc_station.proofs.Alikes.{does_followed}
use Rattle.hdlc_station.proofs.Keeping.{keeps_finishes}
use Rattle.hdlc_station.proofs.Ways.{follows_either}
use Rattle.hdlc_station.proofs.station.Station.finish.Goals as goal

pub returns-clause-follows : goal.returns-clause-follows
returns-clause-follows c =
    let own = c.self.inside in
    subst (λ (k : StationKept). FollowsStep k c.args.out.now (record { core = c.finish-reply.new.self; places = own.places; more = own.more }) c.write.new.out finishes) c.self.view_is
    (follows_either own.core c.finish-reply.new.self own.places own.more c.args.out.now c.write.new.out finishes keeps_finishes
    (c.finish-reply.ensures.answers c.args.out.now c.write.new.out c.write.ensures.appends.items))

pub returns-clause-does : goal.returns-clause-does
returns-clause-does c =
    subst (λ (k : StationKept). DoesStationCall c.finish-reply.new.self c.args.out.now c.write.new.out no_deed (finishes (model_of k.core))) c.self.view_is
    (does_followed c.self.inside.core c.args.out.now c.finish-reply.new.self c.write.new.out finishes c.bounds.ensures.ranged
    (c.finish-reply.ensures.answers c.args.out.now c.write.new.out c.write.ensures.appends.items))
