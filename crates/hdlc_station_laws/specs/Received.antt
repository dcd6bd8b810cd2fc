-- What a frame that comes gives at a station of either kind (ISO/IEC 13239, asynchronous balanced mode): the payloads that are taken, the
-- release that is told, the link that comes up.
use Rattle.std.specs.Prelude.{◌≡◌, ◌⊎◌, ℕ, Bool, true, false, List, [], ◌++◌, None, Some}
use Rattle.std.specs.Option.{option_to_list}
use Rattle.er_base.specs.declared.cause.Cause.TheVariants.{FrameError, PeerDisconnected}
use Rattle.er_base.specs.Causes.{release_of}
use Rattle.hdlc_frames.specs.declared.controls.Control.{Control}
use Rattle.hdlc_frames.specs.declared.controls.Control.TheVariants.{Ua}
use Rattle.hdlc_frames.specs.Framing.{Verdict, Frame}
use Rattle.hdlc_station_model.specs.declared.phase.Phase.TheVariants.{Idle, Setting, Up, Down}
use Rattle.hdlc_station_model.specs.Stations.{Station, no_deed, is_down}
use Rattle.hdlc_station_model.specs.Selective.{receives_as}
use Rattle.hdlc_station_model.specs.Causes.{Comes, IsSetUp, IsOfOctets}
use Rattle.hdlc_station_model.specs.Reports.{TellsRelease}
use Rattle.hdlc_station_model.specs.Timing.{StopsWhenDown}

-- ---- payloads and releases

-- a frame that comes leaves what was handed down alone, and what is told of payloads is what is taken
pub record TakesOfKind (selective : Bool) (s t : Station) : Type 0 where
  pub handed : t.handed ≡ s.handed
  pub taken : t.taken ≡ s.taken ++ (option_to_list t.deed.payload ++ t.deed.more)
  -- one payload at the most with go-back; with selective reject those that were held may follow one that came, and none else
  pub single : selective ≡ false → t.deed.more ≡ []
  pub behind : t.deed.payload ≡ None → t.deed.more ≡ []
  -- it releases for a frame error or since the peer ended the link
  pub released : (t.deed.released ≡ None) ⊎ (t.deed.released ≡ Some (release_of FrameError)) ⊎ (t.deed.released ≡ Some (release_of PeerDisconnected))

abbrev pub FramesGiveOfKind : Type 0
FramesGiveOfKind = (selective : Bool) (now : ℕ) (verdict : Verdict) (s : Station) → s.deed ≡ no_deed
    → TakesOfKind selective s (receives_as selective now verdict s)

-- the release that is told is kept, and the station is Down exactly where it was or one is told
abbrev pub FramesTellRelease : Type 0
FramesTellRelease = (selective : Bool) (now : ℕ) (verdict : Verdict) (s : Station) → s.deed ≡ no_deed → TellsRelease s (receives_as selective now verdict s)

-- after a release a frame that comes does nothing
abbrev pub ReleasedHearNothing : Type 0
ReleasedHearNothing = (selective : Bool) (now : ℕ) (verdict : Verdict) (s : Station) → is_down s.phase ≡ true → receives_as selective now verdict s ≡ s

-- no timer runs in a station that is Down, and so it stays
abbrev pub FramesStopTimer : Type 0
FramesStopTimer = (selective : Bool) (now : ℕ) (verdict : Verdict) (s : Station) → StopsWhenDown s → StopsWhenDown (receives_as selective now verdict s)

-- ---- the link comes up

-- what brings a station up: the set-up frame one that was called and is Idle, UA one that sent the set-up frame
pub data BringsUp (s : Station) (verdict : Verdict) : Type 0 where
  IsCalled : (address : ℕ) (body : List ℕ) (control : Control) → verdict ≡ Frame address body → s.phase ≡ Idle → s.calling ≡ false
      → Comes s address body control [] → IsSetUp control → BringsUp s verdict
  IsAnswered : (address : ℕ) (body : List ℕ) → verdict ≡ Frame address body → s.phase ≡ Setting → Comes s address body Ua [] → BringsUp s verdict

-- how a frame that comes may change the phase
pub data Leads (s : Station) (verdict : Verdict) (t : Station) : Type 0 where
  Stays : t.phase ≡ s.phase → Leads s verdict t
  Rises : BringsUp s verdict → t.phase ≡ Up → t.deed.up ≡ true → Leads s verdict t
  Ends : t.phase ≡ Down → Leads s verdict t

-- it does so exactly there, and is told
abbrev pub FramesBringUp : Type 0
FramesBringUp =
    (selective : Bool) (now : ℕ) (verdict : Verdict) (s : Station) → IsOfOctets verdict
    → (BringsUp s verdict → ((receives_as selective now verdict s).phase ≡ Up) × ((receives_as selective now verdict s).deed.up ≡ true))
    × Leads s verdict (receives_as selective now verdict s)
