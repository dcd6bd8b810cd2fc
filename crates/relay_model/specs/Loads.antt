-- What is given for a unit (this profile): it begins as the unit itself, and the lines of the script that name the unit change it, in the file's order.
use Rattle.std.specs.Prelude.{ℕ, ◌==◌, ◌+◌, ◌-◌, ◌&&◌, Bool, true, false, if◌then◌else◌, List, [], ◌∷◌, ◌++◌, length, filter, set, slice_index, bit_xor}
use Rattle.er_base.specs.declared.side.Side.{Side}
use Rattle.er_base.specs.declared.side.Side.TheVariants.{E, R}
use Rattle.hdlc_frames.specs.Framing.{flag}
use Rattle.relay_script.specs.declared.change.Change.{Change}
use Rattle.relay_script.specs.declared.change.Change.TheVariants.{Lose, Repeat, Alter, Put, Delay, Close}
use Rattle.relay_script.specs.declared.script_line.ScriptLine.{ScriptLine}
use Rattle.relay_script.specs.declared.unit_kind.UnitKind.{UnitKind}
use Rattle.relay_model.specs.Units.{Part, Outside, Whole}
use Rattle.relay_model.specs.UnitKinds.{is_of_kind}

-- what is given at once: octets, how many milliseconds later than they came, and whether the connection is closed behind them
pub record Load : Type 0 where
  pub octets : List ℕ
  pub delay : ℕ
  pub closes : Bool

abbrev pub load_as_it_came : List ℕ → Load
load_as_it_came octets = record { octets = octets; delay = 0; closes = false }

-- the octet at a place, from 1, exclusive-or a mask; past the end nothing changes
abbrev pub with_octet_masked : (place mask : ℕ) → List ℕ → List ℕ
with_octet_masked place mask octets = set octets (place - 1) (bit_xor (slice_index octets (place - 1)) mask)

-- what a line does to what is given so far
abbrev pub load_changed : Change → (unit : List ℕ) → Load → Load
load_changed Lose unit load = record load { octets = flag ∷ [] }
load_changed Repeat unit load = record load { octets = load.octets ++ unit }
load_changed (Alter place mask) unit load = record load { octets = with_octet_masked place mask load.octets }
load_changed (Put text) unit load = record load { octets = text ++ load.octets }
load_changed (Delay milliseconds) unit load = record load { delay = load.delay + milliseconds }
load_changed Close unit load = record load { closes = true }

-- ---- which units a line names

abbrev pub is_same_side : Side → Side → Bool
is_same_side E E = true
is_same_side E R = false
is_same_side R E = false
is_same_side R R = true

-- how many of these units are of a kind
unfoldable pub count_of_kind : UnitKind → (units : List (List ℕ)) → ℕ
count_of_kind kind units = length (filter (is_of_kind kind) units)

-- a unit of a side, behind other units of that side: it is of the line's kind, and the one of that number among them
abbrev pub line_names : ScriptLine → Side → (before : List (List ℕ)) → (unit : List ℕ) → Bool
line_names line side before unit =
    is_same_side line.side side && is_of_kind line.kind unit && (count_of_kind line.kind (before ++ unit ∷ []) == line.number)

-- ---- all that is given

-- for a unit, by the lines that are left
unfoldable pub load_by : List ScriptLine → Side → (before : List (List ℕ)) → (unit : List ℕ) → Load → Load
load_by [] side before unit load = load
load_by (line ∷ lines) side before unit load =
    load_by lines side before unit (if line_names line side before unit then load_changed line.change unit load else load)

abbrev pub load_of_unit : List ScriptLine → Side → (before : List (List ℕ)) → (unit : List ℕ) → Load
load_of_unit lines side before unit = load_by lines side before unit (load_as_it_came unit)

-- where it closes the connection, nothing is given behind it
abbrev pub behind_load : Load → List Load → List Load
behind_load load rest = load ∷ (if load.closes then [] else rest)

-- for parts that come behind these units
unfoldable pub loads_from : List ScriptLine → Side → (before : List (List ℕ)) → List Part → List Load
loads_from lines side before [] = []
loads_from lines side before (Outside octets ∷ parts) = load_as_it_came octets ∷ loads_from lines side before parts
loads_from lines side before (Whole unit ∷ parts) = behind_load (load_of_unit lines side before unit) (loads_from lines side (before ++ unit ∷ []) parts)
