-- T1 of two stations over an order-keeping line (ISO/IEC 13239, asynchronous balanced mode), and what a recovery leaves of it.
use Rattle.std.specs.Prelude.{◌≡◌, ℕ, ◌+◌, ◌<◌, nat_lt, Bool, true, false, List, [], ◌∷◌, ◌++◌, Some, None}
use Rattle.std.specs.List.{list_any}
use Rattle.hdlc_frames.specs.Framing.{Verdict}
use Rattle.hdlc_station_model.specs.declared.phase.Phase.{Phase}
use Rattle.hdlc_station_model.specs.declared.phase.Phase.TheVariants.{Idle, Setting, Up, Down}
use Rattle.hdlc_station_model.specs.Frames.{Frame, Info, Rr, Rej, Srej, SetUp, Disc, Dm, Ua}
use Rattle.hdlc_station_model.specs.Stations.{Station}
use Rattle.hdlc_station_model.specs.Calls.{starts, hands, finishes, ticks, closes}
use Rattle.hdlc_station_model.specs.Selective.{receives_as}
use Rattle.pair_model.specs.Steps.{PairStep, Tick, NoFrameWaits, ArePassesAndTakes}
use Rattle.hdlc_pair_laws.specs.Links.{StationLink}
use Rattle.hdlc_pair_laws.specs.Laws.{StationLinkOpening, after}
use Rattle.hdlc_pair_laws.specs.Recovery.{AreLive, GoOn}

-- T1 runs exactly while an I frame is unacknowledged, or while the set-up is unanswered; where it doesn't run no expiry is counted
abbrev pub TimedAt : Phase → Station → Type 0
TimedAt Idle s = (s.timer ≡ None) × (s.expiries ≡ 0)
TimedAt Setting s = s.timer ≡ None → ⊥
TimedAt Up s = (s.timer ≡ None → (s.acked ≡ s.sent) × (s.expiries ≡ 0)) × (s.acked ≡ s.sent → s.timer ≡ None)
TimedAt Down s = s.timer ≡ None

abbrev pub TimersRun : Type 0
TimersRun =
    (s : StationLinkOpening) (steps : List PairStep) → (after s steps).order_kept ≡ true
    → TimedAt (after s steps).e.station.phase (after s steps).e.station × TimedAt (after s steps).r.station.phase (after s steps).r.station

-- T1 runs at neither station, and no expiry is counted
pub record IsRenewed (l : StationLink) : Type 0 where
  pub e_stopped : l.e.station.timer ≡ None
  pub r_stopped : l.r.station.timer ≡ None
  pub e_none : l.e.station.expiries ≡ 0
  pub r_none : l.r.station.expiries ≡ 0

-- a recovery leaves nothing of the loss: all N2 expiries are left for the next one
abbrev pub Renewal : Type 0
Renewal =
    (s : StationLinkOpening) (steps : List PairStep) → (after s steps).order_kept ≡ true → AreLive (after s steps)
    → (first : List PairStep) → ArePassesAndTakes first → NoFrameWaits (after s (steps ++ first))
    → (now : ℕ) → GoOn now (after s (steps ++ first))
    → (second : List PairStep) → ArePassesAndTakes second → NoFrameWaits (after s (steps ++ first ++ Tick now ∷ second))
    → IsRenewed (after s (steps ++ first ++ Tick now ∷ second))

-- ---- when T1 expires, by what a call says

abbrev pub is_info : Frame → Bool
is_info (Info ns nr payload) = true
is_info (Rr nr) = false
is_info (Rej nr) = false
is_info (Srej nr) = false
is_info SetUp = false
is_info Disc = false
is_info Dm = false
is_info (Ua final) = false

-- an I frame that is sent again, where this was V(S) before the call
abbrev pub is_again : ℕ → Frame → Bool
is_again sent (Info ns nr payload) = nat_lt ns sent
is_again sent (Rr nr) = false
is_again sent (Rej nr) = false
is_again sent (Srej nr) = false
is_again sent SetUp = false
is_again sent Disc = false
is_again sent Dm = false
is_again sent (Ua final) = false

abbrev pub is_set_up : Frame → Bool
is_set_up (Info ns nr payload) = false
is_set_up (Rr nr) = false
is_set_up (Rej nr) = false
is_set_up (Srej nr) = false
is_set_up SetUp = true
is_set_up Disc = false
is_set_up Dm = false
is_set_up (Ua final) = false

-- T1 expires t1 after the moment of the call
abbrev pub IsStarted : Station → Type 0
IsStarted t = t.timer ≡ Some (t.moment + t.t1)

-- the phase and V(A) are what they were, and neither the set-up frame nor an I frame that was sent before is sent
pub record IsAsBefore (s t : Station) : Type 0 where
  pub phase : t.phase ≡ s.phase
  pub acked : t.acked ≡ s.acked
  pub set_up : list_any is_set_up t.said ≡ false
  pub again : list_any (is_again s.sent) t.said ≡ false

-- a call leads from s, which said nothing yet, to t
pub record StartsTimer (s t : Station) : Type 0 where
  -- T1 starts, or starts anew, with the set-up frame and with an I frame that is sent again
  pub set_up : list_any is_set_up t.said ≡ true → IsStarted t
  pub again : list_any (is_again s.sent) t.said ≡ true → IsStarted t
  -- where it didn't run it starts with any I frame, and else with nothing
  pub first : s.timer ≡ None → list_any is_info t.said ≡ true → IsStarted t
  pub rests : IsAsBefore s t → s.timer ≡ None → list_any is_info t.said ≡ false → t.timer ≡ None
  -- where it ran it runs on, whatever is sent for the first time. In Up it runs while an I frame is unacknowledged
  pub runs_on : IsAsBefore s t → (s.phase ≡ Up → s.acked < s.sent) → (expiry : ℕ) → s.timer ≡ Some expiry → t.timer ≡ Some expiry
  -- at progress it starts anew while an I frame is unacknowledged, one of this call too, and else stops
  pub progress : s.acked < t.acked → t.acked < t.sent → IsStarted t
  pub done : s.acked < t.acked → t.acked ≡ t.sent → t.timer ≡ None
  -- it stops at the answer to the set-up, and starts anew where I frames go at once; it stops at a release
  pub answered : s.phase ≡ Setting → t.phase ≡ Up → list_any is_info t.said ≡ false → t.timer ≡ None
  pub followed : s.phase ≡ Setting → t.phase ≡ Up → list_any is_info t.said ≡ true → IsStarted t
  pub released : (s.phase ≡ Down → ⊥) → t.phase ≡ Down → t.timer ≡ None

-- each call of a station of either kind
pub record TimersStart : Type 0 where
  pub starts : (now : ℕ) (s : Station) → s.said ≡ [] → StartsTimer s (starts now s)
  pub receives : (selective : Bool) (now : ℕ) (verdict : Verdict) (s : Station) → s.said ≡ [] → StartsTimer s (receives_as selective now verdict s)
  pub hands : (now : ℕ) (payload : List ℕ) (s : Station) → s.said ≡ [] → StartsTimer s (hands now payload s)
  pub finishes : (s : Station) → s.said ≡ [] → StartsTimer s (finishes s)
  pub ticks : (now : ℕ) (s : Station) → s.said ≡ [] → StartsTimer s (ticks now s)
  pub closes : (s : Station) → s.said ≡ [] → StartsTimer s (closes s)
