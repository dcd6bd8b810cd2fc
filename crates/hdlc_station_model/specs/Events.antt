-- What stands between a station and its two neighbours (ISO/IEC 13239, asynchronous balanced mode): the octets of the frames that a call
-- sent, the frames that new octets close, the release by its own user, and whether a moment finds T1 expired.
use Rattle.std.specs.Prelude.{ℕ, max, Bool, false, List, [], ◌++◌, length, drop, map, Some, None}
use Rattle.er_base.specs.declared.cause.Cause.TheVariants.{User}
use Rattle.er_base.specs.Causes.{release_of}
use Rattle.hdlc_frames.specs.Framing.{Verdict, frames_of}
use Rattle.hdlc_station_model.specs.Frames.{sent_octets}
use Rattle.hdlc_station_model.specs.Stations.{Station}
use Rattle.hdlc_station_model.specs.Sending.{is_due}
use Rattle.hdlc_station_model.specs.Calls.{closes}

-- the frames of one call, as octets
abbrev pub said_octets : Station → List (List ℕ)
said_octets s = map (sent_octets s.calling s.extended) s.said

-- the frames that octets close behind all that was read before
abbrev pub news : List ℕ → List ℕ → List Verdict
news before octets = drop (length (frames_of before)) (frames_of (before ++ octets))

-- the station is closed, for this reason
abbrev pub quits : ℕ → Station → Station
quits sub s = record (closes s) {
  released = Some (release_of (User sub));
  deed = record { up = false; payload = None; more = []; released = Some (release_of (User sub)) };
}

-- T1 of a station is found expired
abbrev pub is_late : ℕ → Station → Bool
is_late now s = is_due s.timer (max s.moment now)
