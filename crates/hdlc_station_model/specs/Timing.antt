-- When T1 of a station is found expired, and that it stops with the station (ISO/IEC 13239, asynchronous balanced mode).
use Rattle.std.specs.Prelude.{◌≡◌, ◌⊎◌, ℕ, ◌≤◌, Bool, true, List, Some, None}
use Rattle.hdlc_frames.specs.Framing.{Verdict}
use Rattle.hdlc_station_model.specs.Stations.{Station, is_down, made}
use Rattle.hdlc_station_model.specs.Calls.{starts, receives, hands, finishes, ticks, closes, deadline}
use Rattle.hdlc_station_model.specs.Events.{quits, is_late}

-- T1 runs, and its moment isn't behind this one, or not behind the station's last one
pub record IsExpired (now : ℕ) (s : Station) : Type 0 where
  pub expiry : ℕ
  pub runs : s.timer ≡ Some expiry
  pub reached : (expiry ≤ s.moment) ⊎ (expiry ≤ now)

-- a moment finds T1 expired exactly so
abbrev pub LateExactly : Type 0
LateExactly = (now : ℕ) (s : Station) → (is_late now s ≡ true → IsExpired now s) × (IsExpired now s → is_late now s ≡ true)

-- no timer runs in a station that is Down
abbrev pub StopsWhenDown : Station → Type 0
StopsWhenDown s = is_down s.phase ≡ true → deadline s ≡ None

-- so it is in a station that was made, and behind each call
pub record TimersStop : Type 0 where
  pub made_station : (calling extended : Bool) (window n2 t1 : ℕ) → StopsWhenDown (made calling extended window n2 t1)
  pub started : (now : ℕ) (s : Station) → StopsWhenDown s → StopsWhenDown (starts now s)
  pub received : (now : ℕ) (verdict : Verdict) (s : Station) → StopsWhenDown s → StopsWhenDown (receives now verdict s)
  pub handed_down : (now : ℕ) (payload : List ℕ) (s : Station) → StopsWhenDown s → StopsWhenDown (hands now payload s)
  pub finished : (s : Station) → StopsWhenDown s → StopsWhenDown (finishes s)
  pub ticked : (now : ℕ) (s : Station) → StopsWhenDown s → StopsWhenDown (ticks now s)
  pub closed : (s : Station) → StopsWhenDown s → StopsWhenDown (closes s)
  pub quit : (sub : ℕ) (s : Station) → StopsWhenDown s → StopsWhenDown (quits sub s)
