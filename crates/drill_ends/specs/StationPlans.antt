-- Contract: with what a drill's stations of the link layer are made.
use Rattle.std.specs.Prelude.{◌==◌, Bool}
use Rattle.er_settings.specs.Values.{Settings}
use Rattle.hdlc_station_model.specs.Stations.{Station, made}

-- how both stations of a link are made
pub record StationsPlan : Type 0 where
  pub selective : Bool
  pub settings : Settings

-- the calling station of a link with these settings, or the called one
abbrev pub made_by : (calling : Bool) → Settings → Station
made_by calling settings = made calling (settings.modulo == 128) settings.window settings.n2 settings.t1
