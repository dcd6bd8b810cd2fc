-- The public laws of what a relay carries. Each is proved as a function of the module `laws`.
use Rattle.std.specs.Prelude.{◌≡◌, ◌≢◌, ℕ, ◌≤◌, Bool, true, false, List, [], ◌∷◌, ◌++◌, length, Some}
use Rattle.std.specs.List.{All}
use Rattle.er_base.specs.declared.side.Side.{Side}
use Rattle.er_base.specs.Printing.{Begins}
use Rattle.hdlc_frames.specs.Framing.{Verdict, frames_of}
use Rattle.relay_script.specs.declared.script.Script.{Script}
use Rattle.relay_model.specs.Units.{Whole, Holding, standing_from, parts_from, standing_behind, parts_of_sent, held_in_standing, octets_in_parts, units_in}
use Rattle.relay_model.specs.UnitKinds.{found_in}
use Rattle.relay_model.specs.Carried.{octets_of_loads, closes_behind, loads_behind, given_of_sent, is_closed_by, carried}
use Rattle.relay_model.specs.Losing.{LosesAndRepeats, LoseOnly, NoneFor}

-- ---- units

-- no octet is lost or moved by the cut into units: the parts and what is held are what came
abbrev pub PartsAreSent : Type 0
PartsAreSent = (came : List ℕ) → octets_in_parts (parts_of_sent came) ++ held_in_standing (standing_behind came) ≡ came

-- the cut into units goes on from where the side stands: how octets were read changes nothing
pub record UnitsGoOn : Type 0 where
  pub parts : (came more : List ℕ) → parts_of_sent (came ++ more) ≡ parts_of_sent came ++ parts_from (standing_behind came) more
  pub standing : (came more : List ℕ) → standing_behind (came ++ more) ≡ standing_from (standing_behind came) more

-- an octet closes one frame of all that came, and it is the one that is found in a unit
pub record EndsInFrame (came : List ℕ) (octet : ℕ) (unit : List ℕ) : Type 0 where
  pub verdict : Verdict
  pub found : found_in unit ≡ Some verdict
  pub frames : frames_of (came ++ octet ∷ []) ≡ frames_of came ++ verdict ∷ []

-- the octet that ends a unit does so
abbrev pub UnitsEndInFrames : Type 0
UnitsEndInFrames =
    (came : List ℕ) (octet : ℕ) (unit : List ℕ) → parts_from (standing_behind came) (octet ∷ []) ≡ Whole unit ∷ [] → EndsInFrame came octet unit

-- an octet that closes a frame ends a unit, where octets are held; so no frame is closed among octets that are held
abbrev pub FramesEndUnits : Type 0
FramesEndUnits =
    (came : List ℕ) (octet : ℕ) (held : List ℕ) (begun : Bool) → standing_behind came ≡ Holding held begun
    → frames_of (came ++ octet ∷ []) ≢ frames_of came → parts_from (standing_behind came) (octet ∷ []) ≡ Whole (held ++ octet ∷ []) ∷ []

-- a unit has at most 4,096 octets, and fewer are held
abbrev pub UnitsAreShort : Type 0
UnitsAreShort =
    (came : List ℕ) → All (λ unit. length unit ≤ 4096) (units_in (parts_of_sent came)) × (length (held_in_standing (standing_behind came)) ≤ 4095)

-- ---- what is given

-- what is given of a beginning is a beginning of what is given of the whole, and of what is carried of either
pub record GivenBegins : Type 0 where
  pub given : (script : Script) (side : Side) (came more : List ℕ) → Begins (given_of_sent script side came) (given_of_sent script side (came ++ more))
  pub carried : (script : Script) (side : Side) (came more : List ℕ) → Begins (given_of_sent script side came) (carried script side (came ++ more))

-- what is given goes on from where the side stands and the units that came, where no line has closed the connection
pub record LoadsGoOn : Type 0 where
  pub given : (script : Script) (side : Side) (came more : List ℕ) → is_closed_by script side came ≡ false
      → given_of_sent script side (came ++ more) ≡ given_of_sent script side came ++ octets_of_loads (loads_behind script side came more)
  pub closed : (script : Script) (side : Side) (came more : List ℕ) → is_closed_by script side came ≡ false
      → is_closed_by script side (came ++ more) ≡ closes_behind (loads_behind script side came more)

-- behind a close nothing is given
abbrev pub ClosedStays : Type 0
ClosedStays =
    (script : Script) (side : Side) (came more : List ℕ) → is_closed_by script side came ≡ true
    → (given_of_sent script side (came ++ more) ≡ given_of_sent script side came) × (carried script side (came ++ more) ≡ given_of_sent script side came)

-- without a line for a side, what it sent is carried
abbrev pub PassedIsSent : Type 0
PassedIsSent = (script : Script) (side : Side) (came : List ℕ) → NoneFor side script.lines → carried script side came ≡ came

-- where all lines for a side lose, repeat or delay, the other side finds the frames that were sent, some left out and some repeated, in order
abbrev pub LosingLine : Type 0
LosingLine =
    (script : Script) (side : Side) (came : List ℕ) → LoseOnly side script.lines
    → LosesAndRepeats (frames_of came) (frames_of (carried script side came))
