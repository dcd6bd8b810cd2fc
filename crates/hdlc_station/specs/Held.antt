-- Contract: how a clause speaks of what the code keeps of a station of the model with selective reject: what it keeps of any, and for each number
-- from V(R) on, as many as the window has, a place.
use Rattle.std.specs.Prelude.{◌≡◌, ℕ, ◌+◌, ◌<◌, ◌≤◌, false, List, [], ◌∷◌, length, None}
use Rattle.er_base.specs.Stored.{Stored}
use Rattle.hdlc_frames.specs.Framing as framing
use Rattle.hdlc_station_model.specs.Stations.{Station, Deed, no_deed}
use Rattle.hdlc_station_model.specs.Selective.{held_for, is_one_of}
use Rattle.hdlc_station.specs.Places.{NumberPlace, held_at, asked_at}
use Rattle.hdlc_station.specs.Kept.{KeptStation, Stands}

-- no number is held twice
abbrev pub HaveDistinctNumbers : List (ℕ × List ℕ) → Type 0
HaveDistinctNumbers [] = Unit {0}
HaveDistinctNumbers (h ∷ held) = (held_for h.0 held ≡ None) × HaveDistinctNumbers held

-- what is held and asked for, of the numbers from V(R) = r on: exactly what their places say, so none from r + window on; below r none is
-- held or asked for, and r itself isn't held
pub record IsBehind (places : List NumberPlace) (r : ℕ) (held : List (ℕ × List ℕ)) (asked : List ℕ) : Type 0 where
  pub is_held : (up : ℕ) → held_for (r + up) held ≡ held_at places up
  pub is_asked : (up : ℕ) → is_one_of (r + up) asked ≡ asked_at places up
  pub none_held : (n : ℕ) → n ≤ r → held_for n held ≡ None
  pub none_asked : (n : ℕ) → n < r → is_one_of n asked ≡ false
  pub distinct : HaveDistinctNumbers held

-- within a call: the code keeps this core and these places, it had `before` when the call began, and told d so far
pub record SelectiveStands (core : KeptStation) (places : List NumberPlace) (before : List ℕ) (out : Stored) (d : Deed) (s : Station) : Type 0 where
  pub stands : Stands core before out d s
  pub behind : IsBehind places (length s.taken) s.held s.asked
  pub no_gap : s.gap ≡ false

-- a part of a call that does what a step of the model does, over the core and the places
abbrev pub Moves : (core : KeptStation) (places : List NumberPlace) → Stored → (core' : KeptStation) (places' : List NumberPlace) → Stored
    → (Station → Station) → Type 0
Moves core places out core' places' out' step =
    (s : Station) (before : List ℕ) (d : Deed) → SelectiveStands core places before out d s → SelectiveStands core' places' before out' d (step s)

-- a part of a call that tells something, where nothing was told before
abbrev pub TellsSelectiveDeed : (core : KeptStation) (places : List NumberPlace) → Stored → (core' : KeptStation) (places' : List NumberPlace) → Stored → Deed
    → (Station → Station) → Type 0
TellsSelectiveDeed core places out core' places' out' told step =
    (s : Station) (before : List ℕ) → SelectiveStands core places before out no_deed s → SelectiveStands core' places' before out' told (step s)

-- what comes in has room in a place: what stands between two flags has at most 1,032 octets
abbrev pub FitsPlace : framing.Verdict → Type 0
FitsPlace (framing.Frame address body) = length body ≤ 1032
FitsPlace framing.BadFcs = Unit {0}
FitsPlace framing.TooShort = Unit {0}
FitsPlace framing.TooLong = Unit {0}
FitsPlace framing.Aborted = Unit {0}
