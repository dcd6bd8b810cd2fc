-- Contract: how a clause speaks of what the code keeps of a station of the model. The code has the numbers modulo the modulo,
-- how far V(S) is ahead of V(A), whether an I frame was taken at all, and of the payloads those from V(A) on.
use Rattle.std.specs.Prelude.{◌≡◌, ℕ, ◌+◌, ◌-◌, ◌*◌, ◌%◌, ◌<◌, ◌≤◌, nat_lt, Bool, false, List, ◌++◌, length, drop, Option}
use Rattle.std.specs.List.{flat_map}
use Rattle.er_base.specs.Stored.{Stored}
use Rattle.hdlc_station_model.specs.declared.phase.Phase.{Phase}
use Rattle.hdlc_station_model.specs.declared.counts.Counts.{Counts}
use Rattle.hdlc_station_model.specs.Frames.{Frame, modulo, sent_octets}
use Rattle.hdlc_station_model.specs.Stations.{Station, Deed, no_deed}

pub record KeptStation : Type 0 where
  pub calling : Bool
  pub extended : Bool
  pub window : ℕ
  pub n2 : ℕ
  pub t1 : ℕ
  pub phase : Phase
  -- the payloads from V(A) on, the first to be acknowledged first
  pub ring : List (List ℕ)
  -- V(A) modulo the modulo
  pub va : ℕ
  -- V(S) - V(A)
  pub ahead : ℕ
  -- V(R) modulo the modulo
  pub vr : ℕ
  -- whether V(R) is above 0
  pub begun : Bool
  pub gap : Bool
  pub busy : Bool
  pub owed : Bool
  pub expiries : ℕ
  pub timer : Option ℕ
  pub moment : ℕ
  pub counts : Counts

-- what the code keeps of a station
abbrev pub kept_of : Station → KeptStation
kept_of s = record {
  calling = s.calling;
  extended = s.extended;
  window = s.window;
  n2 = s.n2;
  t1 = s.t1;
  phase = s.phase;
  ring = drop s.acked s.handed;
  va = s.acked % modulo s.extended;
  ahead = s.sent - s.acked;
  vr = length s.taken % modulo s.extended;
  begun = nat_lt 0 (length s.taken);
  gap = s.gap;
  busy = s.busy;
  owed = s.owed;
  expiries = s.expiries;
  timer = s.timer;
  moment = s.moment;
  counts = s.counts;
}

-- the octets of frames that a station sent
abbrev pub octets_of_sent_frames : (calling extended : Bool) → List Frame → List ℕ
octets_of_sent_frames calling extended frames = flat_map (sent_octets calling extended) frames

-- within a call: the code keeps k, it had `before` when the call began, and told d so far
pub record Stands (k : KeptStation) (before : List ℕ) (out : Stored) (d : Deed) (s : Station) : Type 0 where
  pub is : k ≡ kept_of s
  pub order : s.acked ≤ s.sent
  pub given : s.sent ≤ length s.handed
  pub deed : s.deed ≡ d
  pub text : out.items ≡ before ++ octets_of_sent_frames k.calling k.extended s.said

-- a part of a call that does what a step of the model does
abbrev pub Follows : KeptStation → Stored → KeptStation → Stored → (Station → Station) → Type 0
Follows old out new out' step = (s : Station) (before : List ℕ) (d : Deed) → Stands old before out d s → Stands new before out' d (step s)

-- a part of a call that tells something, where nothing was told before
abbrev pub Tells : KeptStation → Stored → KeptStation → Stored → Deed → (Station → Station) → Type 0
Tells old out new out' told step = (s : Station) (before : List ℕ) → Stands old before out no_deed s → Stands new before out' told (step s)

-- what holds of each station of the model that the code keeps
abbrev pub Shown : KeptStation → (Station → Type 0) → Type 0
Shown k P = (s : Station) → k ≡ kept_of s → s.acked ≤ s.sent → s.sent ≤ length s.handed → P s

-- the greatest number of octets of a frame on the line
abbrev pub frame_octets : ℕ
frame_octets = 2064

-- at most n frames were written
pub record WritesFramesAtMost (old : KeptStation) (out : Stored) (new : KeptStation) (out' : Stored) (n : ℕ) : Type 0 where
  pub window : new.window ≡ old.window
  pub near : new.ahead ≤ new.window
  pub capacity : out'.capacity ≡ out.capacity
  pub items : length out'.items ≤ length out.items + n * 2064

-- what is known of each station that the code keeps
pub record Ranged (k : KeptStation) : Type 0 where
  pub small_va : k.va < modulo k.extended
  pub small_vr : k.vr < modulo k.extended
  pub none_vr : k.begun ≡ false → k.vr ≡ 0
  pub all_sent : k.ahead ≤ length k.ring

-- the ranges of what is kept
pub record InRange (extended : Bool) (window n2 t1 va ahead vr expiries waits slots : ℕ) (begun : Bool) : Type 0 where
  pub some_window : 1 ≤ window
  pub small_window : window < modulo extended
  pub small_n2 : n2 ≤ 100
  pub small_t1 : t1 ≤ 1000000
  pub small_va : va < modulo extended
  pub near : ahead ≤ window
  pub small_vr : vr < modulo extended
  pub none_vr : begun ≡ false → vr ≡ 0
  pub few_expiries : expiries ≤ n2
  pub all_sent : ahead ≤ waits
  pub few_wait : waits ≤ ahead + 16
  pub all_slots : slots ≡ window + 16
