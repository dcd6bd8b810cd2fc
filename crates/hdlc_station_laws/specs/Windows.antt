-- How far a station of either kind uses its window (ISO/IEC 13239, asynchronous balanced mode; that a called station waits for the first I frame is this
-- profile's): as far as it may, and no farther.
use Rattle.std.specs.Prelude.{◌≡◌, ◌⊎◌, ℕ, ◌-◌, ◌≤◌, Bool, true, false, List, length}
use Rattle.hdlc_frames.specs.Framing.{Verdict}
use Rattle.hdlc_station_model.specs.declared.phase.Phase.TheVariants.{Up}
use Rattle.hdlc_station_model.specs.Stations.{Station}
use Rattle.hdlc_station_model.specs.Calls.{starts, hands, finishes, ticks, closes}
use Rattle.hdlc_station_model.specs.Selective.{receives_as}

-- a call leads from s to t
pub record UsesWindow (s t : Station) : Type 0 where
  -- where it may send, all payloads were sent or the window is full
  pub full : t.phase ≡ Up → t.busy ≡ false → (t.calling ≡ true) ⊎ (1 ≤ length t.taken) → (length t.handed ≤ t.sent) ⊎ (t.window ≤ t.sent - t.acked)
  -- where some were sent for the first time, the window wasn't passed, and a called station had taken one
  pub within : (t.sent ≡ s.sent) ⊎ (t.sent - t.acked ≤ t.window)
  pub begun : (t.sent ≡ s.sent) ⊎ (t.calling ≡ true) ⊎ (1 ≤ length t.taken)

-- the calls that send payloads, and those that don't
pub record WindowsAreUsed : Type 0 where
  pub receives : (selective : Bool) (now : ℕ) (verdict : Verdict) (s : Station) → UsesWindow s (receives_as selective now verdict s)
  pub hands : (now : ℕ) (payload : List ℕ) (s : Station) → UsesWindow s (hands now payload s)
  pub ticks : (now : ℕ) (s : Station) → UsesWindow s (ticks now s)
  pub starts : (now : ℕ) (s : Station) → (starts now s).sent ≡ s.sent
  pub finishes : (s : Station) → (finishes s).sent ≡ s.sent
  pub closes : (s : Station) → (closes s).sent ≡ s.sent
