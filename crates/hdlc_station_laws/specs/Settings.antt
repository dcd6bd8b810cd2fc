-- What a station is made with stays, behind each call (ISO/IEC 13239, asynchronous balanced mode).
use Rattle.std.specs.Prelude.{◌≡◌, ℕ, Bool, List}
use Rattle.hdlc_frames.specs.Framing.{Verdict}
use Rattle.hdlc_station_model.specs.Stations.{Station, made}
use Rattle.hdlc_station_model.specs.Calls.{starts, hands, finishes, ticks, closes}
use Rattle.hdlc_station_model.specs.Selective.{receives_as}
use Rattle.hdlc_station_model.specs.Events.{quits}

-- whether it is the calling station and its numbers are extended, its window, N2 and T1
pub record StationSettings : Type 0 where
  pub calling : Bool
  pub extended : Bool
  pub window : ℕ
  pub n2 : ℕ
  pub t1 : ℕ

abbrev pub station_settings : Station → StationSettings
station_settings s = record { calling = s.calling; extended = s.extended; window = s.window; n2 = s.n2; t1 = s.t1 }

-- what a call leaves as it was
pub record SettingsStay : Type 0 where
  pub made_station : (k : StationSettings) → station_settings (made k.calling k.extended k.window k.n2 k.t1) ≡ k
  pub starts : (now : ℕ) (s : Station) → station_settings (starts now s) ≡ station_settings s
  pub receives : (selective : Bool) (now : ℕ) (verdict : Verdict) (s : Station) → station_settings (receives_as selective now verdict s) ≡ station_settings s
  pub hands : (now : ℕ) (payload : List ℕ) (s : Station) → station_settings (hands now payload s) ≡ station_settings s
  pub finishes : (s : Station) → station_settings (finishes s) ≡ station_settings s
  pub ticks : (now : ℕ) (s : Station) → station_settings (ticks now s) ≡ station_settings s
  pub closes : (s : Station) → station_settings (closes s) ≡ station_settings s
  pub quits : (sub : ℕ) (s : Station) → station_settings (quits sub s) ≡ station_settings s
