-- Two stations of one kind, with go-back or with selective reject, over two lines (ISO/IEC 13239, asynchronous balanced mode): e is the
-- calling station, r the called one. Each line is the list of the frames that wait on it, as octets. An end reads all octets that it is
-- given as one stream (this profile).
use Rattle.std.specs.Prelude.{ℕ, nat_le, nat_lt, Bool, true, false, not, ◌&&◌, if◌then◌else◌, List, [], ◌∷◌, ◌++◌, length, is_some}
use Rattle.hdlc_frames.specs.Framing.{Verdict}
use Rattle.hdlc_station_model.specs.Stations.{Station, made, settled, is_down}
use Rattle.hdlc_station_model.specs.Sending.{waiting}
use Rattle.hdlc_station_model.specs.Calls.{starts, hands, finishes, ticks}
use Rattle.hdlc_station_model.specs.Selective.{receives_as}
use Rattle.hdlc_station_model.specs.Events.{said_octets, news, quits, is_late}
use Rattle.pair_model.specs.Links.{EndKind, PairLink, opened_pair_link}

-- a station as an end of a link
pub record StationOnLine : Type 0 where
  pub station : Station
  -- all octets that it was given so far
  pub stream : List ℕ

abbrev pub StationLink : Type 0
StationLink = PairLink StationOnLine

-- ---- an event at an end

-- a call of a station led here: its frames are those that the call sent
abbrev pub station_behind_call : StationOnLine → Station → StationOnLine × List (List ℕ)
station_behind_call x s = (record x { station = settled s }, said_octets s)

-- nothing is done
abbrev pub unmoved : StationOnLine → StationOnLine × List (List ℕ)
unmoved x = (x, [])

-- each frame that octets close is one event, and the answer that is still owed follows it
abbrev pub station_behind_each : (selective : Bool) → (now : ℕ) → List Verdict → Station → Station
station_behind_each selective now [] s = s
station_behind_each selective now (verdict ∷ verdicts) s =
    station_behind_each selective now verdicts (settled (finishes (receives_as selective now verdict s)))

-- the frames that it sends then
abbrev pub frames_behind_each : (selective : Bool) → (now : ℕ) → List Verdict → Station → List (List ℕ)
frames_behind_each selective now [] s = []
frames_behind_each selective now (verdict ∷ verdicts) s =
    let x = finishes (receives_as selective now verdict s) in said_octets x ++ frames_behind_each selective now verdicts (settled x)

abbrev pub behind_octets : (selective : Bool) → (now : ℕ) → List ℕ → StationOnLine → StationOnLine × List (List ℕ)
behind_octets selective now octets x =
    let verdicts = news x.stream octets in (
      record { station = station_behind_each selective now verdicts x.station; stream = x.stream ++ octets },
      frames_behind_each selective now verdicts x.station,
    )

-- a station takes a payload of 1 to 1,026 octets while it isn't released and fewer than 16 wait to be sent
abbrev pub may_hand_down : List ℕ → Station → Bool
may_hand_down payload s = not (is_some s.released) && (nat_le 1 (length payload) && nat_le (length payload) 1026) && nat_lt (waiting s) 16

-- stations of a kind: what is handed down is a payload, what a station takes it gives up at once, and one that was released before does nothing
-- at a release by its user
abbrev pub station_kind : (selective : Bool) → EndKind StationOnLine
station_kind selective = record {
  start = λ now x. station_behind_call x (finishes (starts now x.station));
  receive = behind_octets selective;
  send = λ now payload x. if may_hand_down payload x.station then station_behind_call x (finishes (hands now payload x.station)) else unmoved x;
  take = λ now x. unmoved x;
  release = λ now sub x. if is_down x.station.phase then unmoved x else station_behind_call x (quits sub x.station);
  tick = λ now x. station_behind_call x (finishes (ticks now x.station));
  is_late = λ now x. is_late now x.station;
}

-- ---- a link that is opened

-- a station that was just made, to which nothing came
abbrev pub made_on_line : (calling extended : Bool) (window n2 t1 : ℕ) → StationOnLine
made_on_line calling extended window n2 t1 = record { station = made calling extended window n2 t1; stream = [] }

-- two stations of one kind with the same settings, of which the calling one starts at this moment
abbrev pub opened_station_link : (selective extended : Bool) (window n2 t1 moment : ℕ) → StationLink
opened_station_link selective extended window n2 t1 moment =
    opened_pair_link (station_kind selective) moment (made_on_line true extended window n2 t1) (made_on_line false extended window n2 t1)
