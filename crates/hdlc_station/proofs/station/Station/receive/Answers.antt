use Rattle.std.proofs.Common.{◌≡◌, ◌*◌, ◌+◌, ℕ, List, Option, Some, None, Bool, true, false, ap, sym, subst, ◌∙◌, arith}
use Rattle.hdlc_frames.specs.Shown.{verdict_of_octets_found}
use Rattle.hdlc_station_model.specs.Calls.{receives}
use Rattle.hdlc_station_model.specs.Selective.{receives_as, selective_receives}
use Rattle.hdlc_station.specs.Kept.{WritesFramesAtMost}
use Rattle.hdlc_station.specs.Places.{NumberPlace}
use Rattle.hdlc_station.specs.Stations.{StationKept, is_selective, TellsStep, most_answers, lent_by}
use Rattle.hdlc_station.specs.Told.{deed_of, deed_with, deed_lending}
use Rattle.hdlc_station.specs.Alike.{model_of, DoesStationCall}
use Rattle.hdlc_station.proofs.Alikes.{does_told}
use Rattle.hdlc_station.proofs.Runs.{lent_length}
use Rattle.hdlc_station.proofs.Ways.{tells_back, tells_selective, whole_places, place_fits, answers_selective, answers_back, none_more}
use Rattle.hdlc_station.proofs.station.Station.receive.Goals as goal

pub returns-in-Some-clause-tells : goal.returns-in-Some-clause-tells
returns-in-Some-clause-tells c =
    let own = c.self.inside in
    let deed = c.receive-deed.result in
    let new : StationKept = record { core = c.receive-deed.new.station; places = Some c.receive-deed.new.places; more = deed.more } in
    let is : record { core = own.core; places = Some c.in-Some.places; more = own.more } ≡ c.args.self.now =
    ap (λ (o : Option (List NumberPlace)). record { core = own.core; places = o; more = own.more }) (sym c.in-Some.is) ∙ c.self.view_is in
    subst (λ (k : StationKept). TellsStep k c.args.out.now new c.receive-deed.new.out (deed_lending c.receive-deed.new.places deed) (receives_as (is_selective k) c.args.now (verdict_of_octets_found c.args.found.now))) is
    (tells_selective own.core c.receive-deed.new.station own.more deed.more c.args.out.now c.receive-deed.new.out (selective_receives c.args.now (verdict_of_octets_found c.args.found.now))
    (deed_lending c.receive-deed.new.places deed) c.in-Some.places c.receive-deed.new.places c.receive-deed.ensures.tells)

pub returns-in-None-clause-tells : goal.returns-in-None-clause-tells
returns-in-None-clause-tells c =
    let own = c.self.inside in
    let deed = c.receive-deed-in-None.result in
    let new : StationKept = record { core = c.receive-deed-in-None.new.station; places = own.places; more = deed.more } in
    let back : StationKept = record { core = c.receive-deed-in-None.new.station; places = None; more = deed.more } in
    let is : record { core = own.core; places = None; more = own.more } ≡ c.args.self.now =
    ap (λ (o : Option (List NumberPlace)). record { core = own.core; places = o; more = own.more }) (sym c.in-None.is) ∙ c.self.view_is in
    subst (λ (k : StationKept). TellsStep k c.args.out.now new c.receive-deed-in-None.new.out (deed_with (lent_by own.places deed.more) deed) (receives_as (is_selective k) c.args.now (verdict_of_octets_found c.args.found.now))) is
    (subst (λ (o : Option (List NumberPlace)). TellsStep (record { core = own.core; places = None; more = own.more }) c.args.out.now (record { core = c.receive-deed-in-None.new.station; places = o; more = deed.more }) c.receive-deed-in-None.new.out (deed_with (lent_by o deed.more) deed) (receives c.args.now (verdict_of_octets_found c.args.found.now))) (sym c.in-None.is)
    (tells_back own.core c.receive-deed-in-None.new.station own.more deed.more c.args.out.now c.receive-deed-in-None.new.out (receives c.args.now (verdict_of_octets_found c.args.found.now)) (deed_of deed) c.receive-deed-in-None.ensures.tells))

pub returns-in-None-clause-does : goal.returns-in-None-clause-does
returns-in-None-clause-does c = λ _.
    let came = c.receive-deed-in-None.new in
    let deed = deed_of c.receive-deed-in-None.result in
    subst (λ (k : StationKept). DoesStationCall came.station c.args.out.now came.out deed (receives c.args.now (verdict_of_octets_found c.args.found.now) (model_of k.core))) c.self.view_is
    (does_told c.self.inside.core c.args.out.now came.station came.out deed (receives c.args.now (verdict_of_octets_found c.args.found.now)) c.bounds.ensures.ranged c.receive-deed-in-None.ensures.tells)
