-- When a station of either kind gives up, by what happened to it (ISO/IEC 13239, asynchronous balanced mode; N2 is this profile's): N2 + 1 ticks
-- found T1 expired while V(A) didn't rise, or while the set-up wasn't answered.
use Rattle.std.specs.Prelude.{◌≡◌, ℕ, ◌≤◌, Bool, true, List, ◌++◌, Some}
use Rattle.er_base.specs.declared.cause.Cause.{Cause}
use Rattle.er_base.specs.declared.cause.Cause.TheVariants.{SetUpUnanswered, NoProgress}
use Rattle.er_base.specs.Causes.{release_of}
use Rattle.hdlc_station_model.specs.declared.phase.Phase.{Phase}
use Rattle.hdlc_station_model.specs.declared.phase.Phase.TheVariants.{Setting, Up}
use Rattle.hdlc_station_model.specs.Stations.{Station, made}
use Rattle.hdlc_station_model.specs.Events.{is_late}
use Rattle.hdlc_station_laws.specs.Settings.{StationSettings}
use Rattle.hdlc_station_laws.specs.StationEvents.{StationEvent, Tick, station_step, station_run, expired_ticks}

-- the station behind a list of events
abbrev pub behind_events : (selective : Bool) → StationSettings → List StationEvent → Station
behind_events selective k events = station_run selective (made k.calling k.extended k.window k.n2 k.t1) events

-- the last of these events: since before them V(A) is what it was, and so is the phase; N2 ticks at least found T1 expired
pub record WentWithoutProgress (selective : Bool) (k : StationSettings) (events : List StationEvent) : Type 0 where
  pub before : List StationEvent
  pub since : List StationEvent
  pub parts : events ≡ before ++ since
  pub phase : (behind_events selective k before).phase ≡ (behind_events selective k events).phase
  pub acked : (behind_events selective k before).acked ≡ (behind_events selective k events).acked
  pub expired : k.n2 ≤ expired_ticks selective (behind_events selective k before) since

-- a tick finds T1 expired once more
abbrev pub IsOnceMore : Bool → StationSettings → List StationEvent → (now : ℕ) → Type 0
IsOnceMore selective k events now = (is_late now (behind_events selective k events) ≡ true) × WentWithoutProgress selective k events

-- at this phase a tick releases for this cause exactly so
pub record GivesUpFor (phase : Phase) (why : Cause) : Type 0 where
  pub each : (selective : Bool) (k : StationSettings) (events : List StationEvent) (now : ℕ) → (behind_events selective k events).phase ≡ phase
      → IsOnceMore selective k events now
      → (station_step selective (Tick now) (behind_events selective k events)).deed.released ≡ Some (release_of why)
  pub only : (selective : Bool) (k : StationSettings) (events : List StationEvent) (now : ℕ) → (behind_events selective k events).phase ≡ phase
      → (station_step selective (Tick now) (behind_events selective k events)).deed.released ≡ Some (release_of why) → IsOnceMore selective k events now

-- 1.1 while the set-up is unanswered, 1.2 while the link is up
pub record GivesUp : Type 0 where
  pub unanswered : GivesUpFor Setting SetUpUnanswered
  pub stuck : GivesUpFor Up NoProgress
