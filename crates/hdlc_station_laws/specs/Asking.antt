-- How often a station with selective reject asks for one frame, over any list of events (ISO/IEC 13239, SREJ; that it asks once for a number is this
-- profile's). Numbers are absolute, so none comes round.
use Rattle.std.specs.Prelude.{◌≡◌, ◌⊎◌, ℕ, ◌+◌, ◌<◌, ◌≤◌, ◌==◌, true, false, if◌then◌else◌, List, [], ◌∷◌, length}
use Rattle.hdlc_frames.specs.declared.controls.Control.{Control}
use Rattle.hdlc_frames.specs.Framing.{Frame as Found}
use Rattle.hdlc_station_model.specs.declared.phase.Phase.TheVariants.{Up}
use Rattle.hdlc_station_model.specs.Frames.{Frame, Info, Rr, Rej, Srej, SetUp, Disc, Dm, Ua}
use Rattle.hdlc_station_model.specs.Stations.{Station}
use Rattle.hdlc_station_model.specs.Causes.{Comes, IsSetUp, IsOfOctets}
use Rattle.hdlc_station_laws.specs.StationEvents.{StationEvent, Start, Receive, Hand, Finish, Tick, Close, station_step, station_run}
use Rattle.hdlc_station_laws.specs.Gaps.{is_held}

-- how many SREJ among these frames ask for this number
abbrev pub times_asked : (n : ℕ) → List Frame → ℕ
times_asked n [] = 0
times_asked n (Info ns nr payload ∷ frames) = times_asked n frames
times_asked n (Rr nr ∷ frames) = times_asked n frames
times_asked n (Rej nr ∷ frames) = times_asked n frames
times_asked n (Srej nr ∷ frames) = (if nr == n then 1 else 0) + times_asked n frames
times_asked n (SetUp ∷ frames) = times_asked n frames
times_asked n (Disc ∷ frames) = times_asked n frames
times_asked n (Dm ∷ frames) = times_asked n frames
times_asked n (Ua final ∷ frames) = times_asked n frames

-- how many a station says at these events, one behind another
abbrev pub times_asked_over : (n : ℕ) → Station → List StationEvent → ℕ
times_asked_over n s [] = 0
times_asked_over n s (event ∷ events) = times_asked n (station_step true event s).said + times_asked_over n (station_step true event s) events

-- the set-up frame comes once more while the link is up and no I frame was taken: all that was held and asked for is forgotten
pub record IsSetUpAnew (s : Station) (event : StationEvent) : Type 0 where
  pub now : ℕ
  pub address : ℕ
  pub body : List ℕ
  pub control : Control
  pub information : List ℕ
  pub is : event ≡ Receive now (Found address body)
  pub comes : Comes s address body control information
  pub set_up : IsSetUp control
  pub up : s.phase ≡ Up
  pub none_taken : length s.taken ≡ 0

-- what comes at an event is of octets
abbrev pub IsEventOfOctets : StationEvent → Type 0
IsEventOfOctets (Start now) = Unit {0}
IsEventOfOctets (Receive now verdict) = IsOfOctets verdict
IsEventOfOctets (Hand now payload) = Unit {0}
IsEventOfOctets Finish = Unit {0}
IsEventOfOctets (Tick now) = Unit {0}
IsEventOfOctets Close = Unit {0}

-- what comes at these events is of octets, and at none of them the station is set up anew
abbrev pub NeverSetUpAnew : Station → List StationEvent → Type 0
NeverSetUpAnew s [] = Unit {0}
NeverSetUpAnew s (event ∷ events) = IsEventOfOctets event × (IsSetUpAnew s event → ⊥) × NeverSetUpAnew (station_step true event s) events

-- the frame with this number came: it was taken, or it is held
abbrev pub HasCome : Station → (n : ℕ) → Type 0
HasCome s n = (n < length s.taken) ⊎ (is_held s n ≡ true)

-- it didn't come, and one behind it is held
pub record IsBeforeHeld (s : Station) (n : ℕ) : Type 0 where
  pub low : length s.taken ≤ n
  pub absent : is_held s n ≡ false
  pub behind : ℕ
  pub later : n < behind
  pub held : is_held s behind ≡ true

-- whatever a station holds and asked for before
pub record AsksOnce : Type 0 where
  -- no number twice, however often frames behind it come, are taken, or T1 expires
  pub once : (s : Station) (events : List StationEvent) → 1 ≤ s.window → NeverSetUpAnew s events → (n : ℕ) → times_asked_over n s events ≤ 1
  -- none whose frame came
  pub came : (s : Station) (events : List StationEvent) → 1 ≤ s.window → NeverSetUpAnew s events → (n : ℕ) → HasCome s n → times_asked_over n s events ≡ 0
  -- none but for those that are missing before a held frame, until they come
  pub only : (s : Station) (events : List StationEvent) → 1 ≤ s.window → NeverSetUpAnew s events → (n : ℕ) → 1 ≤ times_asked_over n s events
      → IsBeforeHeld (station_run true s events) n ⊎ HasCome (station_run true s events) n
  -- and where it held nothing and asked for nothing at first, each that is missing before a held frame exactly once
  pub each : (s : Station) (events : List StationEvent) → 1 ≤ s.window → s.held ≡ [] → s.asked ≡ [] → NeverSetUpAnew s events → (n : ℕ)
      → IsBeforeHeld (station_run true s events) n → times_asked_over n s events ≡ 1
