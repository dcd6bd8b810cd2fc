-- The moment comes at a station, and the answer follows.
use Rattle.std.proofs.Common.{List, [], ℕ, ap, sym, subst}
use Rattle.hdlc_station_model.specs.Stations.{Deed}
use Rattle.hdlc_station_model.specs.Calls.{ticks, finishes}
use Rattle.hdlc_station.specs.Stations.{StationKept, is_selective}
use Rattle.hdlc_station.specs.Told.{released_as}
use Rattle.drill_ends.specs.StationEnds.{TellsFrames}
use Rattle.drill_ends.proofs.StationCalls.{call_begins, call_ends, way_stays}
use Rattle.drill_ends.proofs.telling_station.TellingStation.tick.Goals as goal

pub returns : goal.returns
returns c =
    let own = c.self.inside.station in
    let d : Deed = released_as c.tick-released.result in
    λ selective s h.
    let began = call_begins selective c.args.self.now own s c.clear.new.self c.self.view_is h c.clear.ensures.items in
    let done = c.finish.ensures.follows (ticks c.args.now s) [] d (c.tick-released.ensures.tells s [] began) in (
      call_ends selective c.finish.new.self c.finish.new.out d (finishes (ticks c.args.now s)) c.args.told.now.items c.tell_released.new.told.items c.tell_frames.new.told.items
          (way_stays selective c.args.self.now own c.tick-released.new.self c.finish.new.self s c.self.view_is h (ap (λ (k : StationKept). is_selective k) c.tick-released.ensures.same) c.finish.ensures.same)
          done c.in_ok-tell_released.ensures
          (subst (λ (xs : List ℕ). TellsFrames xs c.tell_released.new.told.items c.tell_frames.new.told.items) c.held.ensures c.in_ok-tell_frames.ensures),
      sym (ap (λ (e : Deed). e.released) done.stands.deed),
    )
