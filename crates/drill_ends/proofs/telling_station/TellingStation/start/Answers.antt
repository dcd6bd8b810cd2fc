-- A station begins, and the answer follows.
use Rattle.std.proofs.Common.{List, [], ℕ, ap, sym, subst, ◌∙◌}
use Rattle.std.proofs.lemmas.Result.{on_ok_weaker}
use Rattle.hdlc_station_model.specs.Stations.{Deed, no_deed}
use Rattle.hdlc_station_model.specs.Calls.{starts, finishes}
use Rattle.hdlc_station.specs.Stations.{StationKept, is_selective}
use Rattle.drill_ends.specs.StationEnds.{TellsFrames}
use Rattle.drill_ends.proofs.StationCalls.{call_begins, call_ends, way_stays, nothing_told}
use Rattle.drill_ends.proofs.telling_station.TellingStation.start.Goals as goal

pub returns : goal.returns
returns c =
    on_ok_weaker c.tell_frames.result
    (λ frames selective s h.
    let own = c.self.inside.station in
    let began = call_begins selective c.args.self.now own s c.clear.new.self c.self.view_is h c.clear.ensures.items in
    let done = c.finish.ensures.follows (starts c.args.now s) [] no_deed (c.start.ensures.follows s [] no_deed began) in (
      call_ends selective c.finish.new.self c.finish.new.out no_deed (finishes (starts c.args.now s)) c.args.told.now.items c.args.told.now.items c.tell_frames.new.told.items
          (way_stays selective c.args.self.now own c.start.new.self c.finish.new.self s c.self.view_is h (ap (λ (k : StationKept). is_selective k) c.start.ensures.same) c.finish.ensures.same)
          done (nothing_told c.args.told.now.items)
          (subst (λ (xs : List ℕ). TellsFrames xs c.args.told.now.items c.tell_frames.new.told.items) c.held.ensures frames),
      sym (ap (λ (d : Deed). d.released) done.stands.deed),
    ))
    c.tell_frames.ensures
