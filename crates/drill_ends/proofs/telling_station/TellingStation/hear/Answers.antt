-- A station hears what came, and the answer follows.
use Rattle.std.proofs.Common.{◌≡◌, ℕ, Bool, ◌++◌, List, [], map, Option, sym, ap, ◌∙◌, subst}
use Rattle.hdlc_frames.specs.Framing.{Verdict}
use Rattle.hdlc_frames.specs.Shown.{verdict_of_octets_found}
use Rattle.hdlc_station_model.specs.Stations.{Station, Deed}
use Rattle.hdlc_station_model.specs.Calls.{finishes}
use Rattle.hdlc_station_model.specs.Selective.{receives_as}
use Rattle.hdlc_station.specs.Told.{deed_with}
use Rattle.hdlc_station.specs.Places.{NumberPlace}
use Rattle.hdlc_station.specs.Stations.{StationKept, is_selective, StandsInCall, lent_by}
use Rattle.drill_ends.specs.declared.told.Told.TheVariants as told
use Rattle.drill_ends.specs.StationEnds.{TellsFrames}
use Rattle.drill_ends.proofs.StationCalls.{call_begins, call_ends, way_stays, deed_grew}
use Rattle.drill_ends.proofs.telling_station.TellingStation.hear.Goals as goal

pub receive-deed-requires-clause-fits : goal.receive-deed-requires-clause-fits
receive-deed-requires-clause-fits c = c.either_kind.ensures.fits (is_selective c.self.inside.station) (verdict_of_octets_found c.args.found.now) c.requires

pub returns : goal.returns
returns c =
    let own = c.self.inside.station in
    let verdict : Verdict = verdict_of_octets_found c.args.found.now in
    let came = c.receive-deed.new.self in
    let d : Deed = deed_with (lent_by came.places c.receive-deed.result.more) c.receive-deed.result in
    let same = ap (λ (k : StationKept). lent_by k.places c.receive-deed.result.more) c.finish.ensures.same in
    let told_is = deed_grew d c.args.told.now.items c.tell_up.new.told.items c.tell_arrived.new.told.items c.tell_more.new.told.items c.tell_released.new.told.items
    c.in_ok-tell_up.ensures c.in_ok-tell_arrived.ensures
    (c.in_ok-tell_more.ensures ∙ ap (λ (xs : List (List ℕ)). c.tell_arrived.new.told.items ++ map told.Arrived xs) same) c.in_ok-tell_released.ensures in
    λ selective s h.
    let t : Station = finishes (receives_as selective c.args.now verdict s) in
    let began = call_begins selective c.args.self.now own s c.clear.new.self c.self.view_is h c.clear.ensures.items in
    let way : is_selective own ≡ selective = ap (λ (k : StationKept). is_selective k) c.self.view_is ∙ h.keeps.way in
    let heard = subst (λ (b : Bool). StandsInCall came [] c.receive-deed.new.out d (receives_as b c.args.now verdict s)) way (c.receive-deed.ensures.tells s [] began) in
    let done = c.finish.ensures.follows (receives_as selective c.args.now verdict s) [] d heard in (
      call_ends selective c.finish.new.self c.finish.new.out d t c.args.told.now.items c.tell_released.new.told.items c.tell_frames.new.told.items
          (way_stays selective c.args.self.now own came c.finish.new.self s c.self.view_is h c.receive-deed.ensures.way c.finish.ensures.same)
          done told_is
          (subst (λ (xs : List ℕ). TellsFrames xs c.tell_released.new.told.items c.tell_frames.new.told.items) c.held.ensures c.in_ok-tell_frames.ensures),
      sym (ap (λ (e : Deed). e.released) done.stands.deed),
    )
