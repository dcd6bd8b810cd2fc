-- Why a station of either kind releases at a frame that comes, and that it does so exactly then (ISO/IEC 13239, asynchronous balanced mode; which
-- frames are an error is this profile's). The two kinds differ in one frame: neither may get the reject of the other.
use Rattle.std.specs.Prelude.{◌≡◌, ◌⊎◌, ℕ, ◌≤◌, Bool, true, false, List, length, Option, Some, None}
use Rattle.er_base.specs.declared.release.Release.{Release}
use Rattle.er_base.specs.declared.cause.Cause.{Cause}
use Rattle.er_base.specs.declared.cause.Cause.TheVariants as cause
use Rattle.er_base.specs.Causes.{release_of}
use Rattle.hdlc_frames.specs.declared.controls.Control.{Control}
use Rattle.hdlc_frames.specs.declared.controls.Control.TheVariants.{Info, Rr, Rnr, Rej, Srej, Sabm, Sabme, Disc, Ua, Dm, Frmr}
use Rattle.hdlc_frames.specs.Bodies.{HasNoControl}
use Rattle.hdlc_frames.specs.Framing.{Verdict, Frame}
use Rattle.hdlc_station_model.specs.declared.phase.Phase.TheVariants.{Setting, Up}
use Rattle.hdlc_station_model.specs.Frames.{modulo}
use Rattle.hdlc_station_model.specs.Stations.{Station}
use Rattle.hdlc_station_model.specs.Selective.{receives_as}
use Rattle.hdlc_station_model.specs.Causes.{Either, IsAddressOf, Comes, IsSetUp, IsBare, IsValidReceiveNumber, TakesErrors, IsPeersEnd, IsReleasedFor}
use Rattle.hdlc_station_model.specs.Causes.{IsOfOctets}

-- the reject of the other kind: REJ to a station with selective reject, SREJ to one with go-back
abbrev pub other_reject : (selective : Bool) → (nr : ℕ) → Control
other_reject true nr = Rej nr
other_reject false nr = Srej nr

-- the N(R) that acknowledges: that of I, RR, RNR and REJ; SREJ acknowledges nothing
abbrev pub acknowledgement_of : Control → Option ℕ
acknowledgement_of (Info ns nr) = Some nr
acknowledgement_of (Rr nr) = Some nr
acknowledgement_of (Rnr nr) = Some nr
acknowledgement_of (Rej nr) = Some nr
acknowledgement_of (Srej nr) = None
acknowledgement_of (Sabm poll) = None
acknowledgement_of (Sabme poll) = None
acknowledgement_of (Disc poll) = None
acknowledgement_of Ua = None
acknowledgement_of Dm = None
acknowledgement_of Frmr = None

-- a frame that a station of this kind may not accept
pub data IsErrorOfKind (selective : Bool) (s : Station) (address : ℕ) (body : List ℕ) : Type 0 where
  -- its control is unknown; one of the two addresses it has
  HasUnknownControl : TakesErrors s → IsAddressOf Either s.calling address → HasNoControl (modulo s.extended) body → IsErrorOfKind selective s address body
  IsOtherReject : (nr : ℕ) (information : List ℕ) → TakesErrors s → Comes s address body (other_reject selective nr) information
      → IsErrorOfKind selective s address body
  -- information where none may stand
  HasInformation : (control : Control) (information : List ℕ) → TakesErrors s → Comes s address body control information → IsBare control
      → 1 ≤ length information → IsErrorOfKind selective s address body
  -- the set-up frame at a station that calls: what is in Setting has called
  SetsUpCaller : (control : Control) (information : List ℕ) → TakesErrors s → Comes s address body control information → IsSetUp control
      → (s.calling ≡ true) ⊎ (s.phase ≡ Setting) → IsErrorOfKind selective s address body
  -- the set-up frame behind the first I frame that was taken
  SetsUpAgain : (control : Control) (information : List ℕ) → s.phase ≡ Up → Comes s address body control information → IsSetUp control
      → 1 ≤ length s.taken → IsErrorOfKind selective s address body
  -- an N(R) that acknowledges and names no number from V(A) to V(S)
  NamesNone : (control : Control) (information : List ℕ) (nr : ℕ) → s.phase ≡ Up → Comes s address body control information
      → acknowledgement_of control ≡ Some nr → (IsValidReceiveNumber s nr → ⊥) → IsErrorOfKind selective s address body

-- why what comes releases a station of this kind: 1.3 or 1.4
pub data FrameCauseOfKind (selective : Bool) (s : Station) (verdict : Verdict) (why : Cause) : Type 0 where
  IsError : (address : ℕ) (body : List ℕ) → verdict ≡ Frame address body → IsErrorOfKind selective s address body → why ≡ cause.FrameError
      → FrameCauseOfKind selective s verdict why
  IsByPeer : (address : ℕ) (body : List ℕ) → verdict ≡ Frame address body → IsPeersEnd s address body → why ≡ cause.PeerDisconnected
      → FrameCauseOfKind selective s verdict why

-- a station at which a cause is met releases for it
abbrev pub FrameCausesRelease : Type 0
FrameCausesRelease =
    (selective : Bool) (now : ℕ) (s : Station) (why : Cause) (verdict : Verdict) → IsOfOctets verdict → FrameCauseOfKind selective s verdict why
    → IsReleasedFor why (receives_as selective now verdict s)

-- a station that tells a release met its cause
abbrev pub FramesReleaseOnly : Type 0
FramesReleaseOnly =
    (selective : Bool) (now : ℕ) (s : Station) (release : Release) (verdict : Verdict) → IsOfOctets verdict → s.deed.released ≡ None
    → (receives_as selective now verdict s).deed.released ≡ Some release
    → (why : Cause) × FrameCauseOfKind selective s verdict why × (release ≡ release_of why)
