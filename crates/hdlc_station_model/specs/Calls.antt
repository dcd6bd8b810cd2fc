-- The calls of a station, each a step from a station to a station (ISO/IEC 13239, asynchronous balanced mode; this profile's order): what
-- the event itself does, then the payloads that may be sent now. After a release no call does anything.
use Rattle.std.specs.Prelude.{ℕ, ◌==◌, Bool, ◌&&◌, if◌then◌else◌, List, [], ◌∷◌, ◌++◌, Option, None}
use Rattle.hdlc_frames.specs.Framing.{Verdict}
use Rattle.hdlc_station_model.specs.declared.phase.Phase.{Phase}
use Rattle.hdlc_station_model.specs.declared.phase.Phase.TheVariants.{Idle, Setting, Up, Down}
use Rattle.hdlc_station_model.specs.Frames.{SetUp, Disc}
use Rattle.hdlc_station_model.specs.Stations.{Station, is_down, sees, puts}
use Rattle.hdlc_station_model.specs.Sending.{can_send, waiting, sends_waiting, starts_timer, settles, expires_if_due}
use Rattle.hdlc_station_model.specs.Receiving.{hears}

-- a calling station sends the set-up frame, and T1 starts
abbrev pub starts_at : Phase → Station → Station
starts_at Idle s = if s.calling then starts_timer (puts SetUp (record s { phase = Setting })) else s
starts_at Setting s = s
starts_at Up s = s
starts_at Down s = s

abbrev pub starts : ℕ → Station → Station
starts now s = if is_down s.phase then s else starts_at s.phase (sees now s)

-- a frame comes, or octets that are none
abbrev pub receives : ℕ → Verdict → Station → Station
receives now verdict s = if is_down s.phase then s else sends_waiting (hears verdict (sees now s))

-- a payload is handed down
abbrev pub hands : ℕ → List ℕ → Station → Station
hands now payload s =
    if is_down s.phase then s else sends_waiting (record (sees now s) { handed = s.handed ++ payload ∷ [] })

-- the answer that is still owed is sent
abbrev pub finishes : Station → Station
finishes s = if is_down s.phase then s else settles s

-- time goes on; T1 expires at most once
abbrev pub ticks : ℕ → Station → Station
ticks now s = if is_down s.phase then s else sends_waiting (expires_if_due (sees now s))

-- the layer above ends the link
abbrev pub closes_at : Phase → Station → Station
closes_at Idle s = s
closes_at Setting s = puts Disc s
closes_at Up s = puts Disc s
closes_at Down s = s

abbrev pub closes : Station → Station
closes s = if is_down s.phase then s else record (closes_at s.phase s) { phase = Down; timer = None }

-- a payload that is handed down now is sent at once
abbrev pub may_send : Station → Bool
may_send s = can_send s && waiting s == 0

-- the moment at which the station wants a tick
abbrev pub deadline : Station → Option ℕ
deadline s = s.timer
