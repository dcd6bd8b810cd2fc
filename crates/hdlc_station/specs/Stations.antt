-- Contract: how a clause speaks of a station of the code, with go-back or with selective reject: what is kept of a station of either kind, and with
-- selective reject the places of the frames behind a gap.
use Rattle.std.specs.Prelude.{◌≡◌, ℕ, ◌+◌, ◌*◌, ◌≤◌, Bool, true, false, List, [], length, Option, Some, None}
use Rattle.er_base.specs.Stored.{Stored}
use Rattle.hdlc_frames.specs.Framing.{Verdict}
use Rattle.hdlc_station_model.specs.Stations.{Station, Deed, no_deed}
use Rattle.hdlc_station.specs.Kept.{KeptStation, kept_of, Stands}
use Rattle.hdlc_station.specs.Places.{NumberPlace, lent}
use Rattle.hdlc_station.specs.Held.{IsBehind, FitsPlace}
use Rattle.hdlc_station.specs.declared.reject.Reject.{Reject}
use Rattle.hdlc_station.specs.declared.reject.Reject.TheVariants as reject

abbrev pub is_selective_reject : Reject → Bool
is_selective_reject reject.GoBack = false
is_selective_reject reject.Selective = true

-- ---- what is kept

pub record StationKept : Type 0 where
  pub core : KeptStation
  -- with selective reject, the places of the numbers from V(R) on
  pub places : Option (List NumberPlace)
  -- how many payloads that were held the last frame let up
  pub more : ℕ

abbrev pub is_place_kept : Option (List NumberPlace) → Bool
is_place_kept None = false
is_place_kept (Some places) = true

-- whether the station is one with selective reject
abbrev pub is_selective : StationKept → Bool
is_selective k = is_place_kept k.places

-- what is held behind a gap: with go-back nothing
abbrev pub KeepsHeld : Option (List NumberPlace) → Station → Type 0
KeepsHeld None s = Unit {0}
KeepsHeld (Some places) s = IsBehind places (length s.taken) s.held s.asked × (s.gap ≡ false)

-- the code keeps so of a station of this kind
pub record IsKeptOf (k : StationKept) (selective : Bool) (s : Station) : Type 0 where
  pub core : k.core ≡ kept_of s
  pub way : is_selective k ≡ selective
  pub held : KeepsHeld k.places s

-- the payloads that were held, and that the last frame let up
abbrev pub lent_by : Option (List NumberPlace) → ℕ → List (List ℕ)
lent_by None more = []
lent_by (Some places) more = lent more places

-- ---- a part of a call

-- within a call: the code keeps k, it had `before` when the call began, and told d so far
pub record StandsInCall (k : StationKept) (before : List ℕ) (out : Stored) (d : Deed) (s : Station) : Type 0 where
  pub stands : Stands k.core before out d s
  pub held : KeepsHeld k.places s

-- a call that does what a step of the model does
abbrev pub FollowsStep : StationKept → Stored → StationKept → Stored → (Station → Station) → Type 0
FollowsStep old out new out' step =
    (s : Station) (before : List ℕ) (d : Deed) → StandsInCall old before out d s → StandsInCall new before out' d (step s)

-- a call that tells something, where nothing was told before
abbrev pub TellsStep : StationKept → Stored → StationKept → Stored → Deed → (Station → Station) → Type 0
TellsStep old out new out' told step =
    (s : Station) (before : List ℕ) → StandsInCall old before out no_deed s → StandsInCall new before out' told (step s)

-- ---- a frame that comes

-- with selective reject it has room in a place, as all has that a deframer finds
abbrev pub HasPlace : (selective : Bool) → Verdict → Type 0
HasPlace true verdict = FitsPlace verdict
HasPlace false verdict = Unit {0}

-- the most frames that are sent for it: an answer and the window; with selective reject each number of the window may be asked for
abbrev pub most_answers : (selective : Bool) (window : ℕ) → ℕ
most_answers true window = 2 * window
most_answers false window = window + 1

-- ---- ranges

abbrev pub IsWhole : Option (List NumberPlace) → (window more : ℕ) → Type 0
IsWhole None window more = more ≡ 0
IsWhole (Some places) window more = (length places ≡ window) × (more ≤ length places)
