-- Events of a station of either kind, one behind another, and how many ticks of them found T1 expired.
use Rattle.std.specs.Prelude.{ℕ, ◌+◌, Bool, if◌then◌else◌, List, [], ◌∷◌}
use Rattle.hdlc_frames.specs.Framing.{Verdict}
use Rattle.hdlc_station_model.specs.Stations.{Station, settled}
use Rattle.hdlc_station_model.specs.Calls.{starts, hands, finishes, ticks, closes}
use Rattle.hdlc_station_model.specs.Selective.{receives_as}
use Rattle.hdlc_station_model.specs.Events.{is_late}

pub data StationEvent : Type 0 where
  -- the station is started, or gets what a line brings, or a payload to send
  Start : (now : ℕ) → StationEvent
  Receive : (now : ℕ) (verdict : Verdict) → StationEvent
  Hand : (now : ℕ) (payload : List ℕ) → StationEvent
  -- it sends the answer that it owes, sees time go on, is closed
  Finish : StationEvent
  Tick : (now : ℕ) → StationEvent
  Close : StationEvent

-- an event is one call; nothing is left said or told of the call before
abbrev pub station_step : (selective : Bool) → StationEvent → Station → Station
station_step selective (Start now) s = starts now (settled s)
station_step selective (Receive now verdict) s = receives_as selective now verdict (settled s)
station_step selective (Hand now payload) s = hands now payload (settled s)
station_step selective Finish s = finishes (settled s)
station_step selective (Tick now) s = ticks now (settled s)
station_step selective Close s = closes (settled s)

abbrev pub station_run : (selective : Bool) → Station → List StationEvent → Station
station_run selective s [] = s
station_run selective s (event ∷ events) = station_run selective (station_step selective event s) events

-- 1 for a tick that finds T1 expired
abbrev pub expiries_found : StationEvent → Station → ℕ
expiries_found (Start now) s = 0
expiries_found (Receive now verdict) s = 0
expiries_found (Hand now payload) s = 0
expiries_found Finish s = 0
expiries_found (Tick now) s = if is_late now s then 1 else 0
expiries_found Close s = 0

-- how many ticks of these events find T1 expired
abbrev pub expired_ticks : (selective : Bool) → Station → List StationEvent → ℕ
expired_ticks selective s [] = 0
expired_ticks selective s (event ∷ events) = expiries_found event s + expired_ticks selective (station_step selective event s) events
