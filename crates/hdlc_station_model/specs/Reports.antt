-- What a call of a station tells of a release, and what the station keeps of it (ISO/IEC 13239, asynchronous balanced mode).
use Rattle.std.specs.Prelude.{◌≡◌, ◌||◌, ℕ, Bool, true, false, List, Option, Some, None}
use Rattle.er_base.specs.declared.release.Release.{Release}
use Rattle.hdlc_frames.specs.Framing.{Verdict}
use Rattle.hdlc_station_model.specs.Stations.{Station, no_deed, is_down}
use Rattle.hdlc_station_model.specs.Calls.{starts, receives, hands, finishes, ticks}

-- the release that is told now, or else the one before
abbrev pub newer : Option Release → Option Release → Option Release
newer None before = before
newer (Some release) before = Some release

abbrev pub is_release : Option Release → Bool
is_release None = false
is_release (Some release) = true

-- a release that a call tells is kept and the station is Down; where it tells none, the station keeps what it had
pub record TellsRelease (s t : Station) : Type 0 where
  pub released : t.released ≡ newer t.deed.released s.released
  pub down : is_down t.phase ≡ (is_down s.phase || is_release t.deed.released)

-- of a call that told nothing before, and of one that tells no release
abbrev pub ReleasesAreTold : Type 0
ReleasesAreTold =
    (now : ℕ) (s : Station) → s.deed ≡ no_deed
    → ((verdict : Verdict) → TellsRelease s (receives now verdict s))
    × TellsRelease s (ticks now s)
    × TellsRelease s (starts now s)
    × ((payload : List ℕ) → TellsRelease s (hands now payload s))

-- the answer that is still owed changes nothing of it
pub record KeepsRelease (s t : Station) : Type 0 where
  pub released : t.released ≡ s.released
  pub phase : t.phase ≡ s.phase
  pub deed : t.deed ≡ s.deed

abbrev pub FinishKeepsRelease : Type 0
FinishKeepsRelease = (s : Station) → KeepsRelease s (finishes s)
