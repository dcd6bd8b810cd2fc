-- What the calls of a station leave alone, give up and release for (ISO/IEC 13239, asynchronous balanced mode).
use Rattle.std.specs.Prelude.{◌≡◌, ◌⊎◌, ℕ, true, List, [], ◌∷◌, ◌++◌, Some, None}
use Rattle.std.specs.Option.{option_to_list}
use Rattle.er_base.specs.declared.cause.Cause.TheVariants.{SetUpUnanswered, NoProgress, FrameError, PeerDisconnected}
use Rattle.er_base.specs.Causes.{release_of}
use Rattle.hdlc_frames.specs.Framing.{Verdict}
use Rattle.hdlc_station_model.specs.Stations.{Station, no_deed, is_down}
use Rattle.hdlc_station_model.specs.Calls.{starts, receives, hands, finishes, ticks, closes}

-- what was handed down and what was taken stay as they were
abbrev pub LeavesPayloads : Station → Station → Type 0
LeavesPayloads s t = (t.handed ≡ s.handed) × (t.taken ≡ s.taken)

-- a frame that comes leaves what was handed down alone, and what is told of a payload is what is taken, one at most
pub record Received (s t : Station) : Type 0 where
  pub handed : t.handed ≡ s.handed
  pub taken : t.taken ≡ s.taken ++ option_to_list t.deed.payload
  pub single : t.deed.more ≡ []
  -- it releases for a frame error or since the peer disconnected
  pub released : (t.deed.released ≡ None) ⊎ (t.deed.released ≡ Some (release_of FrameError)) ⊎ (t.deed.released ≡ Some (release_of PeerDisconnected))

-- time takes no payload, and it releases where the set-up was never answered or without progress
pub record Ticked (s t : Station) : Type 0 where
  pub payloads : LeavesPayloads s t
  pub told : (t.deed.up ≡ s.deed.up) × (t.deed.payload ≡ s.deed.payload)
  pub released : (t.deed.released ≡ None) ⊎ (t.deed.released ≡ Some (release_of SetUpUnanswered)) ⊎ (t.deed.released ≡ Some (release_of NoProgress))

abbrev pub ReceivesGive : Type 0
ReceivesGive = (now : ℕ) (verdict : Verdict) (s : Station) → s.deed ≡ no_deed → Received s (receives now verdict s)

abbrev pub TicksGive : Type 0
TicksGive = (now : ℕ) (s : Station) → s.deed ≡ no_deed → Ticked s (ticks now s)

-- a payload that is handed down stands behind the others; the other calls hand none down, and they take none
abbrev pub HandsKeep : Type 0
HandsKeep =
    (now : ℕ) (payload : List ℕ) (s : Station) → ((is_down s.phase ≡ true) ⊎ ((hands now payload s).handed ≡ s.handed ++ payload ∷ []))
    × ((hands now payload s).taken ≡ s.taken) × ((hands now payload s).deed ≡ s.deed)

abbrev pub OthersKeep : Type 0
OthersKeep =
    (now : ℕ) (s : Station)
    → LeavesPayloads s (starts now s) × LeavesPayloads s (finishes s) × LeavesPayloads s (closes s)

-- after a release no call does anything
pub record Inert (s : Station) : Type 0 where
  pub starts : (now : ℕ) → starts now s ≡ s
  pub receives : (now : ℕ) (verdict : Verdict) → receives now verdict s ≡ s
  pub hands : (now : ℕ) (payload : List ℕ) → hands now payload s ≡ s
  pub finishes : finishes s ≡ s
  pub ticks : (now : ℕ) → ticks now s ≡ s
  pub closes : closes s ≡ s

abbrev pub ReleasedAreInert : Type 0
ReleasedAreInert = (s : Station) → is_down s.phase ≡ true → Inert s
