-- Contract: how a clause speaks of a call by what is kept alone, of a call at a frame where the station goes back: the call is done to the one station
-- of the model that `model_of` makes of what is kept. That it is the same for every station of the model that the code may keep is a law.
use Rattle.std.specs.Prelude.{◌≡◌, ℕ, ◌+◌, ◌≤◌, ◌==◌, if◌then◌else◌, List, [], ◌++◌, length, replicate, None}
use Rattle.er_base.specs.Stored.{Stored}
use Rattle.hdlc_frames.specs.Framing.{Verdict}
use Rattle.hdlc_station_model.specs.Frames.{modulo}
use Rattle.hdlc_station_model.specs.Stations.{Station, Deed, no_deed}
use Rattle.hdlc_station_model.specs.Calls.{starts, receives, hands, finishes, ticks, closes}
use Rattle.hdlc_station.specs.Kept.{KeptStation, kept_of, octets_of_sent_frames}

-- a number of payloads taken that shows V(R)
abbrev pub taken_number : KeptStation → ℕ
taken_number k = if k.begun then (if k.vr == 0 then modulo k.extended else k.vr) else 0

-- a station of the model that the code keeps so, between two calls: the payloads that are gone are empty ones
abbrev pub model_of : KeptStation → Station
model_of k = record {
  calling = k.calling;
  extended = k.extended;
  window = k.window;
  n2 = k.n2;
  t1 = k.t1;
  phase = k.phase;
  handed = replicate k.va [] ++ k.ring;
  acked = k.va;
  sent = k.va + k.ahead;
  taken = replicate (taken_number k) [];
  gap = k.gap;
  held = [];
  asked = [];
  busy = k.busy;
  owed = k.owed;
  expiries = k.expiries;
  timer = k.timer;
  moment = k.moment;
  counts = k.counts;
  released = None;
  said = [];
  deed = no_deed;
}

-- the numbers of a station
abbrev pub Sound : Station → Type 0
Sound s = (s.acked ≤ s.sent) × (s.sent ≤ length s.handed)

-- two stations of which the code keeps the same, which sent the same octets in this call and told the same
abbrev pub Alike : Station → Station → Type 0
Alike s t =
    (kept_of s ≡ kept_of t)
    × Sound s
    × Sound t
    × (s.deed ≡ t.deed)
    × (octets_of_sent_frames s.calling s.extended s.said ≡ octets_of_sent_frames t.calling t.extended t.said)

-- each call keeps that
pub record KeepsStationsAlike : Type 0 where
  pub starts : (now : ℕ) (s t : Station) → Alike s t → Alike (starts now s) (starts now t)
  pub receives : (now : ℕ) (verdict : Verdict) (s t : Station) → Alike s t → Alike (receives now verdict s) (receives now verdict t)
  pub hands : (now : ℕ) (payload : List ℕ) (s t : Station) → Alike s t → Alike (hands now payload s) (hands now payload t)
  pub finishes : (s t : Station) → Alike s t → Alike (finishes s) (finishes t)
  pub ticks : (now : ℕ) (s t : Station) → Alike s t → Alike (ticks now s) (ticks now t)
  pub closes : (s t : Station) → Alike s t → Alike (closes s) (closes t)

-- what is kept between two calls is kept of the station that `model_of` makes, and as it is kept of any other
abbrev pub KeptIsModelled : Type 0
KeptIsModelled = (s : Station) → Sound s → s.said ≡ [] → s.deed ≡ no_deed → Alike (model_of (kept_of s)) s

-- a call did this to the station that `model_of` makes, and told this
pub record DoesStationCall (new : KeptStation) (out out' : Stored) (told : Deed) (t : Station) : Type 0 where
  pub kept : new ≡ kept_of t
  pub text : out'.items ≡ out.items ++ octets_of_sent_frames new.calling new.extended t.said
  pub tells : told ≡ t.deed
