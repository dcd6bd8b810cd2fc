-- Contract: an end of levels link and link-sr as the code keeps it.
use Rattle.std.specs.Prelude.{ℕ, ◌≡◌, ◌≤◌, Bool, List, [], length}
use Rattle.hdlc_frames.specs.Deframing as frames
use Rattle.hdlc_station_model.specs.Stations.{Station, no_deed, is_down}
use Rattle.hdlc_station_model.specs.Reports.{is_release}
use Rattle.hdlc_station.specs.Stations.{StationKept, IsKeptOf}
use Rattle.drill_ends.specs.declared.station_end.StationEnd.{StationEnd}

-- a station of the code stands where one of the model of this kind does, between two calls
pub record StandsQuiet (k : StationKept) (selective : Bool) (s : Station) : Type 0 where
  pub keeps : IsKeptOf k selective s
  pub order : s.acked ≤ s.sent
  pub given : s.sent ≤ length s.handed
  pub said : s.said ≡ []
  pub deed : s.deed ≡ no_deed

-- and so does an end that was given this stream
pub record StandsStation (k : StationEnd) (selective : Bool) (s : Station) (stream : List ℕ) : Type 0 where
  pub station : StandsQuiet k.station selective s
  pub reads : k.deframer ≡ frames.kept_of stream
  pub released : k.released ≡ s.released
  pub down : is_down s.phase ≡ is_release s.released
