-- Which I frames a station of either kind sends again (ISO/IEC 13239, asynchronous balanced mode: go-back by REJ, single frames by SREJ, T1): all that
-- are unacknowledged at an expiry of T1, all from N(R) on at REJ, the one that is asked for at SREJ, and none at anything else.
use Rattle.std.specs.Prelude.{◌≡◌, ℕ, ◌-◌, ◌%◌, ◌<◌, ◌≤◌, nat_lt, Bool, true, false, if◌then◌else◌, List, [], ◌∷◌}
use Rattle.er_base.specs.Octets.{AreOctets}
use Rattle.hdlc_frames.specs.declared.controls.Control.{Control}
use Rattle.hdlc_frames.specs.declared.controls.Control.TheVariants as control
use Rattle.hdlc_frames.specs.Framing.{Verdict, Frame as Found}
use Rattle.hdlc_station_model.specs.declared.phase.Phase.TheVariants.{Up}
use Rattle.hdlc_station_model.specs.Frames.{Frame, Info, Rr, Rej, Srej, SetUp, Disc, Dm, Ua, modulo}
use Rattle.hdlc_station_model.specs.Stations.{Station}
use Rattle.hdlc_station_model.specs.Calls.{starts, hands, finishes, ticks, closes}
use Rattle.hdlc_station_model.specs.Selective.{numbers_from, receives_as}
use Rattle.hdlc_station_model.specs.Timing.{IsExpired}
use Rattle.hdlc_station_model.specs.Causes.{Comes, IsOfOctets}

-- the numbers of the I frames among these that were sent before, in their order, where this was V(S)
abbrev pub sent_before : ℕ → List Frame → List ℕ
sent_before sent [] = []
sent_before sent (Info ns nr payload ∷ frames) = if nat_lt ns sent then ns ∷ sent_before sent frames else sent_before sent frames
sent_before sent (Rr nr ∷ frames) = sent_before sent frames
sent_before sent (Rej nr ∷ frames) = sent_before sent frames
sent_before sent (Srej nr ∷ frames) = sent_before sent frames
sent_before sent (SetUp ∷ frames) = sent_before sent frames
sent_before sent (Disc ∷ frames) = sent_before sent frames
sent_before sent (Dm ∷ frames) = sent_before sent frames
sent_before sent (Ua final ∷ frames) = sent_before sent frames

-- the reject of the own kind: SREJ to a station with selective reject, REJ to one with go-back
abbrev pub own_reject : (selective : Bool) → (nr : ℕ) → Control
own_reject true nr = control.Srej nr
own_reject false nr = control.Rej nr

-- what is sent again where SREJ asks for the frame that is shown as nr: an unacknowledged one, or none where none is shown so
pub data AnswersSelectiveReject (s : Station) (nr : ℕ) (again : List ℕ) : Type 0 where
  SendsOne : (n : ℕ) → s.acked ≤ n → n < s.sent → n % modulo s.extended ≡ nr → again ≡ n ∷ [] → AnswersSelectiveReject s nr again
  SendsNone : ((n : ℕ) → s.acked ≤ n → n < s.sent → n % modulo s.extended ≡ nr → ⊥) → again ≡ [] → AnswersSelectiveReject s nr again

-- the call of a station that said nothing yet sends these again
abbrev pub SendsAgain : Station → Station → List ℕ → Type 0
SendsAgain s t again = s.said ≡ [] → sent_before s.sent t.said ≡ again

pub record SentAgain : Type 0 where
  -- at an expiry of T1 all that are unacknowledged, whether the peer is busy or not; a station that gives up sends none again
  pub expired : (now : ℕ) (s : Station) → IsExpired now s → s.phase ≡ Up → (ticks now s).phase ≡ Up
      → SendsAgain s (ticks now s) (numbers_from s.acked (s.sent - s.acked))
  pub given_up : (now : ℕ) (s : Station) → ((ticks now s).phase ≡ Up → ⊥) → SendsAgain s (ticks now s) []
  pub early : (now : ℕ) (s : Station) → (IsExpired now s → ⊥) → SendsAgain s (ticks now s) []
  -- with go-back, at REJ all from its N(R) on, which is V(A) behind it
  pub rejected : (now : ℕ) (s : Station) (address : ℕ) (body : List ℕ) (nr : ℕ) → AreOctets body → Comes s address body (control.Rej nr) [] → s.phase ≡ Up
      → (receives_as false now (Found address body) s).phase ≡ Up
      → SendsAgain s (receives_as false now (Found address body) s)
      (numbers_from (receives_as false now (Found address body) s).acked (s.sent - (receives_as false now (Found address body) s).acked))
  -- with selective reject, at SREJ the one that it asks for; it acknowledges nothing
  pub asked : (now : ℕ) (s : Station) (address : ℕ) (body : List ℕ) (nr : ℕ) → AreOctets body → Comes s address body (control.Srej nr) [] → s.phase ≡ Up
      → s.said ≡ []
      → AnswersSelectiveReject s nr (sent_before s.sent (receives_as true now (Found address body) s).said)
      × ((receives_as true now (Found address body) s).acked ≡ s.acked)
  -- at anything else, and where the link isn't up before or behind the call, none
  pub others : (selective : Bool) (now : ℕ) (s : Station) (verdict : Verdict) → IsOfOctets verdict
      → ((address : ℕ) (body : List ℕ) (nr : ℕ) (information : List ℕ) → verdict ≡ Found address body
      → Comes s address body (own_reject selective nr) information → ⊥)
      → SendsAgain s (receives_as selective now verdict s) []
  pub asleep : (selective : Bool) (now : ℕ) (s : Station) (verdict : Verdict) → IsOfOctets verdict → (s.phase ≡ Up → ⊥)
      → SendsAgain s (receives_as selective now verdict s) []
  pub released : (selective : Bool) (now : ℕ) (s : Station) (verdict : Verdict) → IsOfOctets verdict → ((receives_as selective now verdict s).phase ≡ Up → ⊥)
      → SendsAgain s (receives_as selective now verdict s) []
  pub starts : (now : ℕ) (s : Station) → SendsAgain s (starts now s) []
  pub hands : (now : ℕ) (payload : List ℕ) (s : Station) → SendsAgain s (hands now payload s) []
  pub finishes : (s : Station) → SendsAgain s (finishes s) []
  pub closes : (s : Station) → SendsAgain s (closes s) []
