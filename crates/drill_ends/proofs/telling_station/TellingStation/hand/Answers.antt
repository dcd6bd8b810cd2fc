-- A payload is handed to a station, and the answer follows.
use Rattle.std.proofs.Common.{◌<◌, ℕ, List, [], ap, subst}
use Rattle.std.proofs.lemmas.Result.{on_ok_weaker}
use Rattle.hdlc_station_model.specs.Stations.{Station, no_deed}
use Rattle.hdlc_station_model.specs.Sending.{waiting}
use Rattle.hdlc_station_model.specs.Calls.{hands, finishes}
use Rattle.hdlc_station.specs.Stations.{StationKept, is_selective}
use Rattle.drill_ends.specs.StationEnds.{TellsFrames}
use Rattle.drill_ends.proofs.StationCalls.{call_begins, call_ends, way_stays, nothing_told, none_refused, hand_did}
use Rattle.drill_ends.proofs.telling_station.TellingStation.hand.Goals as goal

pub returns : goal.returns
returns c =
    let own = c.self.inside.station in
    let payload : List ℕ = c.args.payload.now in
    let handed = rw c.octets.ensures.same at c.in_default.ensures.handed in
    on_ok_weaker c.tell_frames.result
    (λ frames selective s h.
    let began = call_begins selective c.args.self.now own s c.clear.new.self c.self.view_is h c.clear.ensures.items in
    hand_did selective c.finish.new.self s payload c.args.now c.args.told.now.items c.tell_frames.new.told.items
    (none_refused s payload c.octets.ensures.some c.octets.ensures.few (c.in_default.ensures.not_full s began.stands.is h.order h.given))
    (call_ends selective c.finish.new.self c.finish.new.out no_deed (finishes (hands c.args.now payload s)) c.args.told.now.items c.args.told.now.items c.tell_frames.new.told.items
    (way_stays selective c.args.self.now own c.hand.new.self c.finish.new.self s c.self.view_is h (ap (λ (k : StationKept). is_selective k) c.hand.ensures.same) c.finish.ensures.same)
    (c.finish.ensures.follows (hands c.args.now payload s) [] no_deed (handed s [] no_deed began))
    (nothing_told c.args.told.now.items)
    (subst (λ (xs : List ℕ). TellsFrames xs c.args.told.now.items c.tell_frames.new.told.items) c.held.ensures frames)))
    c.tell_frames.ensures
