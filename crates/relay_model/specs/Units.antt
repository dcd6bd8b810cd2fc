-- The units of what a side of a relayed connection sends, and what lies outside units (this profile). Frames are closed by flags, as those of
-- ISO/IEC 13239 are.
use Rattle.std.specs.Prelude.{ℕ, ◌==◌, nat_lt, ◌&&◌, Bool, false, not, if◌then◌else◌, List, [], ◌∷◌, ◌++◌, length}
use Rattle.std.specs.List.{flat_map}
use Rattle.hdlc_frames.specs.Framing.{flag}

-- where a side stands
pub data Standing : Type 0 where
  -- it sent no flag yet
  Unbegun : Standing
  -- these octets are held; whether a frame is begun, an octet other than a flag behind the newest flag
  Holding : (held : List ℕ) → (begun : Bool) → Standing
  -- more was held than a unit has
  Overlong : Standing

-- octets that are held no longer
pub data Part : Type 0 where
  -- of no unit
  Outside : (octets : List ℕ) → Part
  Whole : (unit : List ℕ) → Part

-- what an octet more brings
pub record UnitTurn : Type 0 where
  pub next : Standing
  pub parts : List Part

abbrev pub turn_to : Standing → List Part → UnitTurn
turn_to next parts = record { next = next; parts = parts }

-- octets are held up to 4,095 of them; where 4,096 are held without a unit, they pass
abbrev pub held_or_passed : (held : List ℕ) → (begun : Bool) → UnitTurn
held_or_passed held begun = if nat_lt (length held) 4096 then turn_to (Holding held begun) [] else turn_to Overlong (Outside held ∷ [])

-- before the first flag octets pass, and it is held; a flag that closes a frame ends a unit; behind too many octets all passes up to the
-- next flag, and that flag with it
abbrev pub unit_turn : Standing → (octet : ℕ) → UnitTurn
unit_turn Unbegun octet = if octet == flag then turn_to (Holding (octet ∷ []) false) [] else turn_to Unbegun (Outside (octet ∷ []) ∷ [])
unit_turn (Holding held begun) octet =
    if (octet == flag) && begun
    then turn_to (Holding [] false) (Whole (held ++ octet ∷ []) ∷ [])
    else held_or_passed (held ++ octet ∷ []) (not (octet == flag))
unit_turn Overlong octet = turn_to (if octet == flag then Holding [] false else Overlong) (Outside (octet ∷ []) ∷ [])

-- ---- all octets

-- where a side stands behind octets
unfoldable pub standing_from : Standing → List ℕ → Standing
standing_from s [] = s
standing_from s (octet ∷ octets) = standing_from (unit_turn s octet).next octets

-- their parts
unfoldable pub parts_from : Standing → List ℕ → List Part
parts_from s [] = []
parts_from s (octet ∷ octets) = (unit_turn s octet).parts ++ parts_from (unit_turn s octet).next octets

abbrev pub standing_behind : List ℕ → Standing
standing_behind octets = standing_from Unbegun octets

abbrev pub parts_of_sent : List ℕ → List Part
parts_of_sent octets = parts_from Unbegun octets

-- the octets that are held where a side stands
abbrev pub held_in_standing : Standing → List ℕ
held_in_standing Unbegun = []
held_in_standing (Holding held begun) = held
held_in_standing Overlong = []

abbrev pub unit_in_part : Part → List (List ℕ)
unit_in_part (Outside octets) = []
unit_in_part (Whole unit) = unit ∷ []

-- the units among parts
unfoldable pub units_in : List Part → List (List ℕ)
units_in parts = flat_map unit_in_part parts

abbrev pub octets_in_part : Part → List ℕ
octets_in_part (Outside octets) = octets
octets_in_part (Whole unit) = unit

-- the octets of parts
unfoldable pub octets_in_parts : List Part → List ℕ
octets_in_parts parts = flat_map octets_in_part parts
