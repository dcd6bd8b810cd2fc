use Rattle.std.proofs.Common.{◌≡◌, Bool, List, length}
use Rattle.hdlc_station_model.specs.Frames.{Frame}
use Rattle.hdlc_station.specs.Kept.{octets_of_sent_frames}
use Rattle.drill_ends.specs.StationEnds.{TellingFrames}
use Rattle.drill_ends.proofs.telling.tell_frames.Given as goal

abbrev pub invariant-loop-length : goal.invariant-loop-length
invariant-loop-length l =
    (calling extended : Bool) (frames : List Frame) → l.written ≡ octets_of_sent_frames calling extended frames
    → TellingFrames calling extended frames l.rest l.fn.told.items l.told.items

abbrev pub decreases-loop-length : goal.decreases-loop-length
decreases-loop-length l = length l.rest
