-- Why a station releases, and that it does so exactly then (ISO/IEC 13239, asynchronous balanced mode; which frames are an error is this
-- profile's): by the frame that comes, which the tables of controls read, by its phase, its numbers, and T1.
use Rattle.std.specs.Prelude.{◌≡◌, ◌⊎◌, ℕ, ◌+◌, ◌%◌, ◌<◌, ◌≤◌, Bool, true, false, not, List, [], length, Option, Some, None}
use Rattle.er_base.specs.declared.release.Release.{Release}
use Rattle.er_base.specs.declared.cause.Cause.{Cause}
use Rattle.er_base.specs.declared.cause.Cause.TheVariants as cause
use Rattle.er_base.specs.Causes.{release_of}
use Rattle.er_base.specs.Octets.{AreOctets}
use Rattle.hdlc_frames.specs.declared.controls.Control.{Control}
use Rattle.hdlc_frames.specs.declared.controls.Control.TheVariants.{Info, Rr, Rnr, Rej, Srej, Sabm, Sabme, Disc, Ua, Dm, Frmr}
use Rattle.hdlc_frames.specs.Bodies.{HasControl, HasNoControl}
use Rattle.hdlc_frames.specs.Framing.{Verdict, Frame, BadFcs, TooShort, TooLong, Aborted}
use Rattle.hdlc_station_model.specs.declared.phase.Phase.TheVariants.{Idle, Setting, Up, Down}
use Rattle.hdlc_station_model.specs.Frames.{modulo, address_of}
use Rattle.hdlc_station_model.specs.Stations.{Station}
use Rattle.hdlc_station_model.specs.Calls.{starts, receives, hands, finishes, ticks, closes}
use Rattle.hdlc_station_model.specs.Events.{quits}
use Rattle.hdlc_station_model.specs.Timing.{IsExpired}

-- ---- what a frame is

pub data FrameKind : Type 0 where
  Command Response Either : FrameKind

-- I, the set-up frame and DISC are commands; UA, DM and FRMR are responses; RR, RNR, REJ and SREJ come as either
abbrev pub command_or_response : Control → FrameKind
command_or_response (Info ns nr) = Command
command_or_response (Rr nr) = Either
command_or_response (Rnr nr) = Either
command_or_response (Rej nr) = Either
command_or_response (Srej nr) = Either
command_or_response (Sabm poll) = Command
command_or_response (Sabme poll) = Command
command_or_response (Disc poll) = Command
command_or_response Ua = Response
command_or_response Dm = Response
command_or_response Frmr = Response

-- a command bears the address of the station to which it comes, a response that of its peer
abbrev pub IsAddressOf : FrameKind → (calling : Bool) (address : ℕ) → Type 0
IsAddressOf Command calling address = address ≡ address_of calling
IsAddressOf Response calling address = address ≡ address_of (not calling)
IsAddressOf Either calling address = (address ≡ address_of calling) ⊎ (address ≡ address_of (not calling))

-- a frame comes with this control and information, under an address of its kind
pub record Comes (s : Station) (address : ℕ) (body : List ℕ) (control : Control) (information : List ℕ) : Type 0 where
  pub reads : HasControl (modulo s.extended) body control information
  pub addressed : IsAddressOf (command_or_response control) s.calling address

abbrev pub IsSetUp : Control → Type 0
IsSetUp (Info ns nr) = ⊥
IsSetUp (Rr nr) = ⊥
IsSetUp (Rnr nr) = ⊥
IsSetUp (Rej nr) = ⊥
IsSetUp (Srej nr) = ⊥
IsSetUp (Sabm poll) = Unit {0}
IsSetUp (Sabme poll) = Unit {0}
IsSetUp (Disc poll) = ⊥
IsSetUp Ua = ⊥
IsSetUp Dm = ⊥
IsSetUp Frmr = ⊥

-- information may stand in I frames and in FRMR
abbrev pub IsBare : Control → Type 0
IsBare (Info ns nr) = ⊥
IsBare (Rr nr) = Unit {0}
IsBare (Rnr nr) = Unit {0}
IsBare (Rej nr) = Unit {0}
IsBare (Srej nr) = Unit {0}
IsBare (Sabm poll) = Unit {0}
IsBare (Sabme poll) = Unit {0}
IsBare (Disc poll) = Unit {0}
IsBare Ua = Unit {0}
IsBare Dm = Unit {0}
IsBare Frmr = ⊥

-- N(R) of an I or S frame
abbrev pub nr_of : Control → Option ℕ
nr_of (Info ns nr) = Some nr
nr_of (Rr nr) = Some nr
nr_of (Rnr nr) = Some nr
nr_of (Rej nr) = Some nr
nr_of (Srej nr) = Some nr
nr_of (Sabm poll) = None
nr_of (Sabme poll) = None
nr_of (Disc poll) = None
nr_of Ua = None
nr_of Dm = None
nr_of Frmr = None

-- N(R) names a number: V(A), or one behind it up to V(S)
pub record IsValidReceiveNumber (s : Station) (nr : ℕ) : Type 0 where
  pub number : ℕ
  pub within : (number ≡ s.acked) ⊎ ((s.acked < number) × (number ≤ s.sent))
  pub shown : number % modulo s.extended ≡ nr

-- ---- the causes

-- the link was asked for or is up
abbrev pub IsBegun : Station → Type 0
IsBegun s = (s.phase ≡ Setting) ⊎ (s.phase ≡ Up)

-- a calling station takes errors before that too, a called one takes such frames as stray
abbrev pub TakesErrors : Station → Type 0
TakesErrors s = IsBegun s ⊎ ((s.phase ≡ Idle) × (s.calling ≡ true))

-- a frame that the station may not accept
pub data IsFrameError (s : Station) (address : ℕ) (body : List ℕ) : Type 0 where
  -- its control is unknown; one of the two addresses it has
  HasUnknownControl : TakesErrors s → IsAddressOf Either s.calling address → HasNoControl (modulo s.extended) body → IsFrameError s address body
  IsSelectiveReject : (nr : ℕ) (information : List ℕ) → TakesErrors s → Comes s address body (Srej nr) information → IsFrameError s address body
  -- information where none may stand
  HasInformation : (control : Control) (information : List ℕ) → TakesErrors s → Comes s address body control information → IsBare control
      → 1 ≤ length information → IsFrameError s address body
  -- the set-up frame at a station that calls: what is in Setting has called
  SetsUpCaller : (control : Control) (information : List ℕ) → TakesErrors s → Comes s address body control information → IsSetUp control
      → (s.calling ≡ true) ⊎ (s.phase ≡ Setting) → IsFrameError s address body
  -- the set-up frame behind the first I frame that was taken
  SetsUpAgain : (control : Control) (information : List ℕ) → s.phase ≡ Up → Comes s address body control information → IsSetUp control
      → 1 ≤ length s.taken → IsFrameError s address body
  -- an N(R) that names no number
  NamesNone : (control : Control) (information : List ℕ) (nr : ℕ) → s.phase ≡ Up → Comes s address body control information → nr_of control ≡ Some nr
      → (IsValidReceiveNumber s nr → ⊥) → IsFrameError s address body

-- the peer ends the link or refuses a frame
pub data IsPeersEnd (s : Station) (address : ℕ) (body : List ℕ) : Type 0 where
  Disconnects : (poll : Bool) → IsBegun s → Comes s address body (Disc poll) [] → IsPeersEnd s address body
  IsDisconnected : IsBegun s → Comes s address body Dm [] → IsPeersEnd s address body
  RejectsFrame : (information : List ℕ) → IsBegun s → Comes s address body Frmr information → IsPeersEnd s address body

-- why what comes releases a station: 1.3 or 1.4
pub data FrameCause (s : Station) (verdict : Verdict) (why : Cause) : Type 0 where
  IsError : (address : ℕ) (body : List ℕ) → verdict ≡ Frame address body → IsFrameError s address body → why ≡ cause.FrameError → FrameCause s verdict why
  IsByPeer : (address : ℕ) (body : List ℕ) → verdict ≡ Frame address body → IsPeersEnd s address body → why ≡ cause.PeerDisconnected → FrameCause s verdict why

-- T1 expires once more than N2 times in a row
abbrev pub IsOneTooMany : ℕ → Station → Type 0
IsOneTooMany now s = IsExpired now s × (s.n2 < s.expiries + 1)

-- why time releases a station: 1.1 or 1.2
pub data TimeCause (now : ℕ) (s : Station) (why : Cause) : Type 0 where
  IsUnanswered : s.phase ≡ Setting → IsOneTooMany now s → why ≡ cause.SetUpUnanswered → TimeCause now s why
  IsStuck : s.phase ≡ Up → IsOneTooMany now s → why ≡ cause.NoProgress → TimeCause now s why

-- ---- a station releases exactly where a cause is met

-- the station is Down for this cause, and tells it
pub record IsReleasedFor (why : Cause) (t : Station) : Type 0 where
  pub down : t.phase ≡ Down
  pub released : t.released ≡ Some (release_of why)
  pub deed : t.deed ≡ record { up = false; payload = None; more = []; released = Some (release_of why) }

-- a body is one of octets
abbrev pub IsOfOctets : Verdict → Type 0
IsOfOctets (Frame address body) = AreOctets body
IsOfOctets BadFcs = Unit {0}
IsOfOctets TooShort = Unit {0}
IsOfOctets TooLong = Unit {0}
IsOfOctets Aborted = Unit {0}

-- a station at which a cause is met releases for it
abbrev pub CauseReleases : Type 0
CauseReleases =
    (now : ℕ) (s : Station) (why : Cause)
    → ((verdict : Verdict) → IsOfOctets verdict → FrameCause s verdict why → IsReleasedFor why (receives now verdict s))
    × (TimeCause now s why → IsReleasedFor why (ticks now s))

-- a station that tells a release met its cause
abbrev pub ReleasesOnly : Type 0
ReleasesOnly =
    (now : ℕ) (s : Station) (release : Release) → s.deed.released ≡ None
    → ((verdict : Verdict) → IsOfOctets verdict → (receives now verdict s).deed.released ≡ Some release
    → (why : Cause) × FrameCause s verdict why × (release ≡ release_of why))
    × ((ticks now s).deed.released ≡ Some release → (why : Cause) × TimeCause now s why × (release ≡ release_of why))

-- no other call tells one, and a close by the own user alone is 0.x
abbrev pub OthersTellNone : Type 0
OthersTellNone =
    (now : ℕ) (s : Station)
    → ((starts now s).deed ≡ s.deed) × ((finishes s).deed ≡ s.deed) × ((closes s).deed ≡ s.deed)
    × ((payload : List ℕ) → (hands now payload s).deed ≡ s.deed)
    × ((sub : ℕ) → IsReleasedFor (cause.User sub) (quits sub s))
