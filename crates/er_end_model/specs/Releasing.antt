-- The table of releases: why an end is released, in the words of the layer that finds it, and that it is released exactly then (this profile;
-- UNISIG SUBSET-037, ITU-T X.224, ITU-T T.70, ISO/IEC 13239).
use Rattle.std.specs.Prelude.{ℕ, ◌≡◌, ◌≤◌, max, false, List, [], ◌∷◌, ◌++◌, Some, None, Ok, Err}
use Rattle.std.specs.List.{Contains}
use Rattle.er_base.specs.declared.release.Release.{Release}
use Rattle.er_base.specs.declared.cause.Cause.{Cause}
use Rattle.er_base.specs.declared.cause.Cause.TheVariants as cause
use Rattle.er_base.specs.Causes.{release_of, by_peer_di}
use Rattle.hdlc_frames.specs.Framing.{Verdict}
use Rattle.hdlc_station_model.specs.Stations.{Station, settled}
use Rattle.hdlc_station_model.specs.Calls as station
use Rattle.t70_header.specs.declared.fault.BlockFault.{BlockFault}
use Rattle.t70_header.specs.Joining as joining
use Rattle.x224_class2.specs.Refusals.{tpdu_refused, message_too_long}
use Rattle.x224_class2.specs.Transport.{Disconnected, Refused, reception}
use Rattle.sapdu.specs.Spelling.{Di, di_in}
use Rattle.safety_automaton.specs.Safety.{Received, peer_flag}
use Rattle.safety_automaton.specs.Rules.{IsOpen, IsReceived, CauseMet}
use Rattle.hdlc_station_model.specs.Events.{news}
use Rattle.er_end_model.specs.Outcomes.{WasReleased}
use Rattle.er_end_model.specs.Steps.{Finds, is_connected}
use Rattle.er_end_model.specs.Layers.{Core}
use Rattle.er_end_model.specs.Ends.{Event, Come, Leave, Tick, Ended, Fault, Stalled, End, Moment, step_event, end_run}
use Rattle.er_end_model.specs.Hearing.{station_behind, IsTextOf}
use Rattle.er_end_model.specs.Origins.{core_behind_frames}

-- ---- what a frame comes to, at an end, in a moment

-- what can be met by a frame
abbrev pub FrameFact : Type 1
FrameFact = (finds : Finds) (now : ℕ) (x : Core) (verdict : Verdict) → Type 0

-- one of the frames that octets closed met this, at an end that wasn't released
pub record AtFrame (now : ℕ) (event : Event) (m : End) (Fact : FrameFact) : Type 0 where
  pub finds : Finds
  pub octets : List ℕ
  pub came : event ≡ Come finds octets
  pub first : List Verdict
  pub verdict : Verdict
  pub later : List Verdict
  pub frames : news m.stream octets ≡ first ++ verdict ∷ later
  pub live : (core_behind_frames finds now first m).released ≡ None
  pub met : Fact finds now (core_behind_frames finds now first m) verdict

-- the station told a release, and nothing besides
abbrev pub StationReleases : Release → FrameFact
StationReleases why finds now x verdict = (station_behind x now verdict).deed ≡ record { up = false; payload = None; more = []; released = Some why }

-- the payload that the station took is no block, or makes a TPDU that is too long
abbrev pub BlockIsFaulty : FrameFact
BlockIsFaulty finds now x verdict =
    (payload : List ℕ) × (fault : BlockFault) × ((station_behind x now verdict).deed.payload ≡ Some payload)
    × ((joining.block_step x.joined payload).1 ≡ Err fault)

-- a TPDU that the station and the blocks made of a frame
pub record IsTpduOf (x : Core) (now : ℕ) (verdict : Verdict) (tpdu : List ℕ) : Type 0 where
  pub payload : List ℕ
  pub taken : (station_behind x now verdict).deed.payload ≡ Some payload
  pub joined : (joining.block_step x.joined payload).1 ≡ Ok (Some tpdu)

-- the transport refused it, by this sub-reason
abbrev pub TpduIsRefused : (sub : ℕ) → FrameFact
TpduIsRefused sub finds now x verdict =
    (tpdu : List ℕ) × (reason : ℕ) × IsTpduOf x now verdict tpdu × ((reception x.upper.transport tpdu).1 ≡ Refused sub reason)

-- it was a DR with this user data
abbrev pub IsDr : (user : List ℕ) → FrameFact
IsDr user finds now x verdict = (tpdu : List ℕ) × IsTpduOf x now verdict tpdu × ((reception x.upper.transport tpdu).1 ≡ Disconnected user)

-- that isn't a DI with the peer's flag
abbrev pub DrHasNoDi : FrameFact
DrHasNoDi finds now x verdict = (user : List ℕ) × IsDr user finds now x verdict × (di_in user (peer_flag x.safe.safety) ≡ None)

-- the text that came met this cause at the safety side
abbrev pub SafetyMet : Cause → FrameFact
SafetyMet why finds now x verdict =
    (text : List ℕ) × IsTextOf x now verdict text × CauseMet (finds (max x.moment now)) x.safe.safety (Received text) why

-- the peer's DI came: in a DR, or in another TPDU at a safety side that isn't released
pub data PeersDi (reason sub : ℕ) (finds : Finds) (now : ℕ) (x : Core) (verdict : Verdict) : Type 0 where
  InDr : (user : List ℕ) → IsDr user finds now x verdict → di_in user (peer_flag x.safe.safety) ≡ Some (reason, sub) → PeersDi reason sub finds now x verdict
  InOther : (text : List ℕ) → IsTextOf x now verdict text → IsOpen x.safe.safety.phase → IsReceived x.safe.safety (Received text) (Di reason sub)
      → PeersDi reason sub finds now x verdict

-- ---- the table

-- the station behind a tick
abbrev pub station_at : Core → ℕ → Station
station_at x now = station.ticks (max x.moment now) (settled x.line)

-- what an event must meet where an end is released for a cause
abbrev pub MeetsReleaseCause : (now : ℕ) → Event → End → Cause → Type 0
MeetsReleaseCause now event m (cause.User sub) = event ≡ Leave sub
MeetsReleaseCause now event m cause.SetUpUnanswered = (event ≡ Tick) × ((station_at m.core now).deed.released ≡ Some (release_of cause.SetUpUnanswered))
MeetsReleaseCause now event m cause.NoProgress = (event ≡ Tick) × ((station_at m.core now).deed.released ≡ Some (release_of cause.NoProgress))
MeetsReleaseCause now event m cause.FrameError = AtFrame now event m (StationReleases (release_of cause.FrameError))
MeetsReleaseCause now event m cause.PeerDisconnected = AtFrame now event m (StationReleases (release_of cause.PeerDisconnected))
MeetsReleaseCause now event m cause.LineEnded = event ≡ Ended
MeetsReleaseCause now event m cause.LineFailed = event ≡ Fault
MeetsReleaseCause now event m cause.LineStalled = event ≡ Stalled
MeetsReleaseCause now event m cause.DisconnectWithoutDi = AtFrame now event m DrHasNoDi
MeetsReleaseCause now event m cause.TpduRefused = AtFrame now event m (TpduIsRefused tpdu_refused)
MeetsReleaseCause now event m cause.MessageTooLong = AtFrame now event m (TpduIsRefused message_too_long)
MeetsReleaseCause now event m cause.BlockRefused = AtFrame now event m BlockIsFaulty
MeetsReleaseCause now event m cause.NoKey = AtFrame now event m (SafetyMet cause.NoKey)
MeetsReleaseCause now event m cause.Au2MacWrong = AtFrame now event m (SafetyMet cause.Au2MacWrong)
MeetsReleaseCause now event m cause.Au3MacWrong = AtFrame now event m (SafetyMet cause.Au3MacWrong)
MeetsReleaseCause now event m cause.ArMacWrong = AtFrame now event m (SafetyMet cause.ArMacWrong)
MeetsReleaseCause now event m cause.OtherResponder = AtFrame now event m (SafetyMet cause.OtherResponder)
MeetsReleaseCause now event m cause.OtherFeature = AtFrame now event m (SafetyMet cause.OtherFeature)
MeetsReleaseCause now event m cause.DtMacWrong = AtFrame now event m (SafetyMet cause.DtMacWrong)
MeetsReleaseCause now event m cause.WrongDirection = AtFrame now event m (SafetyMet cause.WrongDirection)
MeetsReleaseCause now event m cause.Unexpected = AtFrame now event m (SafetyMet cause.Unexpected)
MeetsReleaseCause now event m cause.Malformed = AtFrame now event m (SafetyMet cause.Malformed)
-- T1 first: where the station gives up at the same tick, it is 1.1 or 1.2
MeetsReleaseCause now event m cause.SetUpTimeSpent =
    (event ≡ Tick) × ((station_at m.core now).deed.released ≡ None) × (is_connected m.core.safe.safety.phase ≡ false) × (m.core.limit ≤ max m.core.moment now)

-- why an end is released: for one of these causes, or by the peer's DI with its two octets
pub data ReleaseMet (now : ℕ) (event : Event) (m : End) (why : Release) : Type 0 where
  ForCause : (of : Cause) → MeetsReleaseCause now event m of → why ≡ release_of of → ReleaseMet now event m why
  ByPeer : (reason sub : ℕ) → AtFrame now event m (PeersDi reason sub) → why ≡ by_peer_di reason sub → ReleaseMet now event m why

-- ---- an end is released exactly so

-- of each event at an end that isn't released: where it is released behind it, this was met; where this is met, it is released, and tells it;
-- and it tells no other release
pub record EndReleases : Type 0 where
  pub only : (now : ℕ) (event : Event) (m : End) (why : Release) → m.core.released ≡ None
      → (step_event now event m).0.core.released ≡ Some why → ReleaseMet now event m why
  pub each : (now : ℕ) (event : Event) (m : End) (why : Release) → m.core.released ≡ None → ReleaseMet now event m why
      → ((step_event now event m).0.core.released ≡ Some why) × Contains (step_event now event m).1 (WasReleased why)
  pub told : (now : ℕ) (event : Event) (m : End) (why : Release) → m.core.released ≡ None
      → Contains (step_event now event m).1 (WasReleased why) → (step_event now event m).0.core.released ≡ Some why

-- a release in a run is that of one of its events
pub record ReleasedIn (events : List Moment) (m : End) (why : Release) : Type 0 where
  pub before : List Moment
  pub now : ℕ
  pub event : Event
  pub after : List Moment
  pub events_are : events ≡ before ++ record { now = now; event = event } ∷ after
  pub live : (end_run before m).core.released ≡ None
  pub met : ReleaseMet now event (end_run before m) why

abbrev pub RunsRelease : Type 0
RunsRelease = (events : List Moment) (m : End) (why : Release) → m.core.released ≡ None → (end_run events m).core.released ≡ Some why → ReleasedIn events m why
