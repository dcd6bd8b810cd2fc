-- A station is closed.
use Rattle.std.proofs.Common.{ℕ, List, [], Some, refl, ap, subst}
use Rattle.er_base.specs.declared.cause.Cause.TheVariants.{User}
use Rattle.er_base.specs.Causes.{release_of}
use Rattle.hdlc_station_model.specs.Stations.{Deed, no_deed}
use Rattle.hdlc_station_model.specs.Events.{quits}
use Rattle.hdlc_station.specs.Told.{released_as}
use Rattle.drill_ends.specs.StationEnds.{TellsFrames}
use Rattle.drill_ends.proofs.StationCalls.{call_begins, call_ends, way_stays, quit_stands}
use Rattle.drill_ends.proofs.telling_station.TellingStation.quit.Goals as goal

pub returns : goal.returns
returns c =
    let own = c.self.inside.station in
    let d : Deed = released_as (Some (release_of (User c.args.sub))) in
    λ selective s h.
    let began = call_begins selective c.args.self.now own s c.clear.new.self c.self.view_is h c.clear.ensures.items in
    let done = quit_stands c.close.new.self c.close.new.out c.args.sub s (c.close.ensures.follows s [] no_deed began) in (
      call_ends selective c.close.new.self c.close.new.out d (quits c.args.sub s) c.args.told.now.items c.push_back.new.self.items c.tell_frames.new.told.items
          (way_stays selective c.args.self.now own own c.close.new.self s c.self.view_is h refl c.close.ensures.same)
          done (rw c.release-release.ensures at c.in_ok-push_back.ensures.items)
          (subst (λ (xs : List ℕ). TellsFrames xs c.push_back.new.self.items c.tell_frames.new.told.items) c.held.ensures c.in_ok-tell_frames.ensures),
      ap Some c.release-release.ensures,
    )
