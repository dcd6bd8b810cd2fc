use Rattle.std.proofs.Common.{subst}
use Rattle.hdlc_station_model.specs.Calls.{ticks}
use Rattle.hdlc_station.specs.Stations.{StationKept, TellsStep}
use Rattle.hdlc_station.specs.Told.{released_as}
use Rattle.hdlc_station.specs.Alike.{model_of, DoesStationCall}
use Rattle.hdlc_station.proofs.Alikes.{does_told}
use Rattle.hdlc_station.proofs.Keeping.{keeps_ticks}
use Rattle.hdlc_station.proofs.Ways.{tells_either}
use Rattle.hdlc_station.proofs.station.Station.tick.Goals as goal

pub returns-clause-tells : goal.returns-clause-tells
returns-clause-tells c =
    let own = c.self.inside in
    subst (λ (k : StationKept). TellsStep k c.args.out.now (record { core = c.tick.new.self; places = own.places; more = own.more }) c.tick.new.out (released_as c.tick.result) (ticks c.args.now)) c.self.view_is
    (tells_either own.core c.tick.new.self own.places own.more c.args.out.now c.tick.new.out (ticks c.args.now) (keeps_ticks c.args.now) (released_as c.tick.result) c.tick.ensures.tells)

pub returns-clause-does : goal.returns-clause-does
returns-clause-does c =
    subst (λ (k : StationKept). DoesStationCall c.tick.new.self c.args.out.now c.tick.new.out (released_as c.tick.result) (ticks c.args.now (model_of k.core))) c.self.view_is
    (does_told c.self.inside.core c.args.out.now c.tick.new.self c.tick.new.out (released_as c.tick.result) (ticks c.args.now) c.bounds.ensures.ranged c.tick.ensures.tells)
