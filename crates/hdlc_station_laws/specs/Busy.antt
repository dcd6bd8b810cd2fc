-- The busy mark of a station of either kind (ISO/IEC 13239, asynchronous balanced mode: receive not ready, receive ready): what sets and clears it, and
-- that a busy peer is sent no I frame for the first time.
use Rattle.std.specs.Prelude.{◌≡◌, ℕ, nat_le, Bool, true, false, List, []}
use Rattle.std.specs.List.{list_any}
use Rattle.hdlc_frames.specs.declared.controls.Control.{Control}
use Rattle.hdlc_frames.specs.declared.controls.Control.TheVariants as control
use Rattle.hdlc_frames.specs.Framing.{Verdict, Frame as Found}
use Rattle.hdlc_station_model.specs.declared.phase.Phase.TheVariants.{Up}
use Rattle.hdlc_station_model.specs.Frames.{Frame, Info, Rr, Rej, Srej, SetUp, Disc, Dm, Ua}
use Rattle.hdlc_station_model.specs.Stations.{Station}
use Rattle.hdlc_station_model.specs.Calls.{starts, hands, finishes, ticks, closes}
use Rattle.hdlc_station_model.specs.Selective.{receives_as}
use Rattle.hdlc_station_model.specs.Causes.{Comes, IsOfOctets}

-- whether the peer is busy behind a frame with this control, where it was this before
abbrev pub busy_behind : Control → Bool → Bool
busy_behind (control.Info ns nr) before = before
busy_behind (control.Rr nr) before = false
busy_behind (control.Rnr nr) before = true
busy_behind (control.Rej nr) before = false
busy_behind (control.Srej nr) before = before
busy_behind (control.Sabm poll) before = before
busy_behind (control.Sabme poll) before = before
busy_behind (control.Disc poll) before = before
busy_behind control.Ua before = before
busy_behind control.Dm before = before
busy_behind control.Frmr before = before

-- what came is a frame for this station
pub record IsForStation (s : Station) (verdict : Verdict) : Type 0 where
  pub address : ℕ
  pub body : List ℕ
  pub control : Control
  pub information : List ℕ
  pub frame : verdict ≡ Found address body
  pub comes : Comes s address body control information

-- the busy mark is what the frames say that come while the link is up and that don't release; nothing else touches it
pub record MarksBusy : Type 0 where
  pub heard : (selective : Bool) (now : ℕ) (s : Station) (verdict : Verdict) → IsOfOctets verdict → (h : IsForStation s verdict) → s.phase ≡ Up
      → (receives_as selective now verdict s).phase ≡ Up → (receives_as selective now verdict s).busy ≡ busy_behind h.control s.busy
  pub released : (selective : Bool) (now : ℕ) (s : Station) (verdict : Verdict) → IsOfOctets verdict → ((receives_as selective now verdict s).phase ≡ Up → ⊥)
      → (receives_as selective now verdict s).busy ≡ s.busy
  pub asleep : (selective : Bool) (now : ℕ) (s : Station) (verdict : Verdict) → IsOfOctets verdict → (s.phase ≡ Up → ⊥)
      → (receives_as selective now verdict s).busy ≡ s.busy
  pub unheard : (selective : Bool) (now : ℕ) (s : Station) (verdict : Verdict) → IsOfOctets verdict → (IsForStation s verdict → ⊥)
      → (receives_as selective now verdict s).busy ≡ s.busy
  pub starts : (now : ℕ) (s : Station) → (starts now s).busy ≡ s.busy
  pub hands : (now : ℕ) (payload : List ℕ) (s : Station) → (hands now payload s).busy ≡ s.busy
  pub finishes : (s : Station) → (finishes s).busy ≡ s.busy
  pub ticks : (now : ℕ) (s : Station) → (ticks now s).busy ≡ s.busy
  pub closes : (s : Station) → (closes s).busy ≡ s.busy

-- an I frame that is sent for the first time, where this was V(S) before the call
abbrev pub is_first : ℕ → Frame → Bool
is_first sent (Info ns nr payload) = nat_le sent ns
is_first sent (Rr nr) = false
is_first sent (Rej nr) = false
is_first sent (Srej nr) = false
is_first sent SetUp = false
is_first sent Disc = false
is_first sent Dm = false
is_first sent (Ua final) = false

-- a call leads from s, which said nothing yet, to t: where the peer is busy, V(S) stays, and no I frame is sent for the first time
pub record WaitsForReady (s t : Station) : Type 0 where
  pub sent : t.busy ≡ true → t.sent ≡ s.sent
  pub said : t.busy ≡ true → list_any (is_first s.sent) t.said ≡ false

pub record BusyWaits : Type 0 where
  pub starts : (now : ℕ) (s : Station) → s.said ≡ [] → WaitsForReady s (starts now s)
  pub receives : (selective : Bool) (now : ℕ) (verdict : Verdict) (s : Station) → s.said ≡ [] → WaitsForReady s (receives_as selective now verdict s)
  pub hands : (now : ℕ) (payload : List ℕ) (s : Station) → s.said ≡ [] → WaitsForReady s (hands now payload s)
  pub finishes : (s : Station) → s.said ≡ [] → WaitsForReady s (finishes s)
  pub ticks : (now : ℕ) (s : Station) → s.said ≡ [] → WaitsForReady s (ticks now s)
  pub closes : (s : Station) → s.said ≡ [] → WaitsForReady s (closes s)
