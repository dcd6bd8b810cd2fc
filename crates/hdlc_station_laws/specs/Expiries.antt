-- What a station of either kind counts as an expiry of T1, and what counts that back to 0 (ISO/IEC 13239, asynchronous balanced mode; N2 counts the
-- expiries since the last progress, this profile's).
use Rattle.std.specs.Prelude.{◌≡◌, ℕ, ◌+◌, ◌<◌, ◌≤◌, Bool, List}
use Rattle.hdlc_frames.specs.Framing.{Verdict}
use Rattle.hdlc_station_model.specs.declared.phase.Phase.TheVariants.{Setting, Up, Down}
use Rattle.hdlc_station_model.specs.Stations.{Station}
use Rattle.hdlc_station_model.specs.Calls.{starts, hands, finishes, ticks, closes}
use Rattle.hdlc_station_model.specs.Selective.{receives_as}
use Rattle.hdlc_station_model.specs.Timing.{IsExpired}
use Rattle.hdlc_station_model.specs.Causes.{IsBegun}

-- a call that is no tick leads from s to t: progress and the answer to the set-up count the expiries back to 0, and nothing else touches them
pub record CountsBack (s t : Station) : Type 0 where
  -- V(A) never falls
  pub acked : s.acked ≤ t.acked
  pub progress : s.acked < t.acked → t.expiries ≡ 0
  pub answered : s.phase ≡ Setting → t.phase ≡ Up → t.expiries ≡ 0
  pub others : t.acked ≡ s.acked → (s.phase ≡ Setting → t.phase ≡ Up → ⊥) → t.expiries ≡ s.expiries

-- a tick leads from s to t: it counts one expiry where it finds T1 expired and the station goes on, else none
pub record CountsExpiry (now : ℕ) (s t : Station) : Type 0 where
  pub acked : t.acked ≡ s.acked
  pub counted : IsExpired now s → IsBegun s → IsBegun t → t.expiries ≡ s.expiries + 1
  pub early : (IsExpired now s → ⊥) → t.expiries ≡ s.expiries
  pub given_up : t.phase ≡ Down → t.expiries ≡ s.expiries

-- each call of a station of either kind
pub record ExpiriesCount : Type 0 where
  pub starts : (now : ℕ) (s : Station) → CountsBack s (starts now s)
  pub receives : (selective : Bool) (now : ℕ) (verdict : Verdict) (s : Station) → CountsBack s (receives_as selective now verdict s)
  pub hands : (now : ℕ) (payload : List ℕ) (s : Station) → CountsBack s (hands now payload s)
  pub finishes : (s : Station) → CountsBack s (finishes s)
  pub ticks : (now : ℕ) (s : Station) → CountsExpiry now s (ticks now s)
  pub closes : (s : Station) → CountsBack s (closes s)
