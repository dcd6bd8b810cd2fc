-- What an end sends last, by what releases it (ITU-T X.224, 6.7: DR and DC; UNISIG SUBSET-037: DI; ISO/IEC 13239: DISC; which of them goes for which cause,
-- and in which order, is this profile's).
use Rattle.std.specs.Prelude.{◌≡◌, ◌⊎◌, ◌≤◌, ◌<◌, ◌-◌, ℕ, max, true, false, not, ◌&&◌, if◌then◌else◌, List, [], ◌∷◌, ◌++◌, length, Some, None}
use Rattle.std.specs.List.{All}
use Rattle.er_base.specs.declared.release.Release.{Release}
use Rattle.er_base.specs.declared.cause.Cause.{Cause}
use Rattle.er_base.specs.declared.cause.Cause.TheVariants as cause
use Rattle.er_base.specs.Causes.{release_of, by_this_end, by_peer_di}
use Rattle.hdlc_frames.specs.Framing.{Verdict}
use Rattle.hdlc_station_model.specs.declared.phase.Phase.{Phase}
use Rattle.hdlc_station_model.specs.declared.phase.Phase.TheVariants.{Idle, Setting, Up, Down}
use Rattle.hdlc_station_model.specs.Frames.{Frame, Info, Rr, Rej, Srej, SetUp, Disc, Dm, Ua}
use Rattle.hdlc_station_model.specs.Stations.{Station, settled, is_down}
use Rattle.t70_header.specs.Blocks.{last_block}
use Rattle.x224_class2.specs.Tpdus.{GivenTpdu, Cr, Cc, Dt, Ak, Dr, Dc, octets_given}
use Rattle.x224_class2.specs.Transport.{Refused, reception}
use Rattle.sapdu.specs.Spelling.{Di, spelling, di_in}
use Rattle.safety_automaton.specs.Safety.{Received, flag_of, peer_flag}
use Rattle.safety_automaton.specs.Rules.{IsOpen, IsReceived}
use Rattle.er_end_model.specs.Steps.{Finds, new_event_at, is_connected, step_start, step_frame, on_send, step_take, step_release, step_tick, step_break}
use Rattle.er_end_model.specs.Layers.{Core, model}
use Rattle.er_end_model.specs.Ends.{Opening, Moment, opened, end_run}
use Rattle.er_end_model.specs.Hearing.{station_behind, IsTextOf}
use Rattle.er_end_model.specs.Origins.{core_behind_frames}
use Rattle.er_end_model.specs.Releasing.{StationReleases, BlockIsFaulty, IsTpduOf, IsDr, DrHasNoDi, SafetyMet, station_at}

-- ---- the table: what releases an end, and what it sends then

-- what joins what the station said by itself
pub data LastSent : Type 0 where
  -- nothing
  Nothing : LastSent
  -- a DR with this reason and this user data, then DISC
  Leaves : (reason : ℕ) (user : List ℕ) → LastSent
  -- a DC; the link is the peer's to end
  Confirms : LastSent
  -- DISC alone
  Disconnects : LastSent

-- the DI of an end that releases: the reason and the sub-reason, with the own direction flag
abbrev pub own_di : Release → Core → List ℕ
own_di why x = spelling (Di why.reason why.sub) (flag_of x.safe.safety.role)

-- at a frame. A DR's reason is 128, normal disconnect, with a DI; 133, protocol error, at a faulty block; at a TPDU that is refused what the transport names
pub data FrameEnds (finds : Finds) (now : ℕ) (x : Core) (verdict : Verdict) (why : Release) (last : LastSent) : Type 0 where
  -- 1.3 and 1.4: the station sent its last frame itself
  ByStation : StationReleases why finds now x verdict → last ≡ Nothing → FrameEnds finds now x verdict why last
  -- 2.1: a DR without a DI
  ByBareDr : DrHasNoDi finds now x verdict → why ≡ release_of cause.DisconnectWithoutDi → last ≡ Confirms → FrameEnds finds now x verdict why last
  -- 2.2 and 2.3: a TPDU that is refused
  ByTpdu : (tpdu : List ℕ) (sub reason : ℕ) → IsTpduOf x now verdict tpdu → (reception x.upper.transport tpdu).1 ≡ Refused sub reason
      → why ≡ by_this_end 2 sub → last ≡ Leaves reason [] → FrameEnds finds now x verdict why last
  -- 2.4: a block that is faulty
  ByBlock : BlockIsFaulty finds now x verdict → why ≡ release_of cause.BlockRefused → last ≡ Leaves 133 [] → FrameEnds finds now x verdict why last
  -- 3, 4 and 5: the safety side releases
  BySafety : (of : Cause) → SafetyMet of finds now x verdict → why ≡ release_of of → last ≡ Leaves 128 (own_di why x) → FrameEnds finds now x verdict why last
  -- the peer's DI: in a DR, and in another TPDU
  ByPeersDr : (reason sub : ℕ) (user : List ℕ) → IsDr user finds now x verdict → di_in user (peer_flag x.safe.safety) ≡ Some (reason, sub)
      → why ≡ by_peer_di reason sub → last ≡ Confirms → FrameEnds finds now x verdict why last
  ByPeersDi : (reason sub : ℕ) (text : List ℕ) → IsTextOf x now verdict text → IsOpen x.safe.safety.phase
      → IsReceived x.safe.safety (Received text) (Di reason sub) → why ≡ by_peer_di reason sub → last ≡ Disconnects → FrameEnds finds now x verdict why last

-- at a tick
pub data TimeEnds (now : ℕ) (x : Core) (why : Release) (last : LastSent) : Type 0 where
  -- 1.1 and 1.2: the station gave up and sent DISC itself
  ByT1 : (station_at x now).deed.released ≡ Some why → last ≡ Nothing → TimeEnds now x why last
  -- 6.1: the time for the set-up is spent
  BySetUp : (station_at x now).deed.released ≡ None → is_connected x.safe.safety.phase ≡ false → x.limit ≤ max x.moment now
      → why ≡ release_of cause.SetUpTimeSpent → last ≡ Leaves 128 (own_di why x) → TimeEnds now x why last

-- ---- what is said then

-- a payload that is handed to a station goes at once: its link is up, the peer isn't busy, the window has room, a called station took an I frame, and no
-- other payload waits
pub record SendsAtOnce (s : Station) : Type 0 where
  pub up : s.phase ≡ Up
  pub ready : s.busy ≡ false
  pub room : s.sent - s.acked < s.window
  pub begun : (s.calling ≡ true) ⊎ (1 ≤ length s.taken)
  pub none_waits : s.sent ≡ length s.handed

-- the I frame with a TPDU in one block: it shows V(S) and V(R)
abbrev pub frame_with : GivenTpdu → Station → Frame
frame_with tpdu s = Info s.sent (length s.taken) (last_block (octets_given tpdu))

-- DISC, where the link was asked for or is up
abbrev pub disc_at : Phase → List Frame
disc_at Idle = []
disc_at Setting = Disc ∷ []
disc_at Up = Disc ∷ []
disc_at Down = []

-- RR, where the link stands, an I frame was taken, and nothing said since shows it
abbrev pub owed_answer : Station → List Frame
owed_answer s = if not (is_down s.phase) && s.owed then Rr (length s.taken) ∷ [] else []

-- between x and y these TPDUs join those that were given, and behind what the station s said come these frames
pub record Adds (s : Station) (x y : Core) (tpdus : List GivenTpdu) (frames : List Frame) : Type 0 where
  pub given : y.upper.transport.gave ≡ x.upper.transport.gave ++ tpdus
  pub said : y.line.said ≡ s.said ++ frames

-- what stands in a row of the table, where the station was s; a TPDU goes at once or not at all
abbrev pub Says : LastSent → Station → Core → Core → Type 0
Says Nothing s x y = Adds s x y [] []
Says (Leaves reason user) s x y =
    (SendsAtOnce s → Adds s x y (Dr reason user ∷ []) (frame_with (Dr reason user) s ∷ Disc ∷ [])) × ((SendsAtOnce s → ⊥) → Adds s x y [] (disc_at s.phase))
Says Confirms s x y = (SendsAtOnce s → Adds s x y (Dc ∷ []) (frame_with Dc s ∷ [])) × ((SendsAtOnce s → ⊥) → Adds s x y [] (owed_answer s))
Says Disconnects s x y = Adds s x y [] (disc_at s.phase)

-- the end is released so, and its last is this
abbrev pub EndsWith : Release → LastSent → Station → Core → Core → Type 0
EndsWith why last s x y = (y.released ≡ Some why) × Says last s x y

-- ---- and what is said else

-- a TPDU that begins or carries on a connection: neither a DR nor a DC
abbrev pub IsNoLast : GivenTpdu → Type 0
IsNoLast (Cr credit size user) = Unit {0}
IsNoLast (Cc credit size user) = Unit {0}
IsNoLast (Dt last number user) = Unit {0}
IsNoLast (Ak credit number) = Unit {0}
IsNoLast (Dr reason user) = ⊥
IsNoLast Dc = ⊥

-- and a frame that isn't DISC
abbrev pub IsNoDisc : Frame → Type 0
IsNoDisc (Info ns nr payload) = Unit {0}
IsNoDisc (Rr nr) = Unit {0}
IsNoDisc (Rej nr) = Unit {0}
IsNoDisc (Srej nr) = Unit {0}
IsNoDisc SetUp = Unit {0}
IsNoDisc Disc = ⊥
IsNoDisc Dm = Unit {0}
IsNoDisc (Ua final) = Unit {0}

-- the end isn't released: it gave no DR and no DC, and its station, which is Down no more than before, said no DISC
pub record GoesOn (x y : Core) : Type 0 where
  pub live : y.released ≡ None
  pub tpdus : List GivenTpdu
  pub given : y.upper.transport.gave ≡ x.upper.transport.gave ++ tpdus
  pub none_last : All IsNoLast tpdus
  pub none_disc : All IsNoDisc y.line.said
  pub link : is_down y.line.phase ≡ is_down x.line.phase

-- ---- the law

-- an end that isn't released, and nor is its safety side; its station sent no more than it was handed
pub record IsLive (x : Core) : Type 0 where
  pub released : x.released ≡ None
  pub open_side : IsOpen x.safe.safety.phase
  pub handed : x.line.sent ≤ length x.line.handed

-- an end that isn't released is so
abbrev pub IsLiveUnlessReleased : Core → Type 0
IsLiveUnlessReleased x = x.released ≡ None → IsLive x

-- each end behind any events, and behind any of the frames that octets close
pub record EndsAreLive : Type 0 where
  pub events : (opening : Opening) (events : List Moment) → IsLiveUnlessReleased (end_run events (opened opening)).core
  pub frames : (opening : Opening) (events : List Moment) (finds : Finds) (now : ℕ) (first : List Verdict)
      → IsLiveUnlessReleased (core_behind_frames finds now first (end_run events (opened opening)))

-- of each event at such an end: where a row is met it ends with what stands there, its user's release and a broken line are rows too, and else it goes on
pub record LastTpdus : Type 0 where
  pub frame : (finds : Finds) (now : ℕ) (verdict : Verdict) (x : Core) (why : Release) (last : LastSent) → IsLive x → FrameEnds finds now x verdict why last
      → EndsWith why last (station_behind x now verdict) x (step_frame model finds now verdict x)
  pub tick : (now : ℕ) (x : Core) (why : Release) (last : LastSent) → IsLive x → TimeEnds now x why last
      → EndsWith why last (station_at x now) x (step_tick model now x)
  pub release : (now sub : ℕ) (x : Core) → IsLive x
      → EndsWith (release_of (cause.User sub)) (Leaves 128 (own_di (release_of (cause.User sub)) x)) (settled x.line) x (step_release model now sub x)
  pub breaks : (of : Cause) (x : Core) → IsLive x → EndsWith (release_of of) Nothing (settled x.line) x (step_break model of x)
  pub frame_only : (finds : Finds) (now : ℕ) (verdict : Verdict) (x : Core) → IsLive x
      → GoesOn x (step_frame model finds now verdict x) ⊎ ((why : Release) × (last : LastSent) × FrameEnds finds now x verdict why last)
  pub tick_only : (now : ℕ) (x : Core) → IsLive x → GoesOn x (step_tick model now x) ⊎ ((why : Release) × (last : LastSent) × TimeEnds now x why last)
  pub start : (now : ℕ) (x : Core) → IsLive x → GoesOn x (step_start model now x)
  pub send : (now : ℕ) (user : List ℕ) (x : Core) → IsLive x → GoesOn x (on_send model user (new_event_at model now x))
  pub take : (now : ℕ) (x : Core) → IsLive x → GoesOn x (step_take model now x)
