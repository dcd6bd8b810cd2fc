-- The lines of a tap behind each other (this profile): which links they open, which they name, and the stream of each side.
use Rattle.std.specs.Prelude.{ℕ, ◌==◌, if◌then◌else◌, Bool, true, false, ◌||◌, List, [], ◌∷◌, Option, Some, None}
use Rattle.std.specs.List.{flat_map}
use Rattle.er_base.specs.declared.side.Side.{Side}
use Rattle.er_base.specs.declared.side.Side.TheVariants.{E, R}
use Rattle.er_tap.specs.declared.tap_line.TapLine.{TapLine}
use Rattle.er_tap.specs.declared.tap_step.TapStep.{TapStep}
use Rattle.er_tap.specs.declared.tap_step.TapStep.TheVariants as step

-- ---- whether each line stands behind those that it needs

unfoldable pub has : ℕ → List ℕ → Bool
has n [] = false
has n (m ∷ opened) = n == m || has n opened

-- a line names a link that wasn't opened, or opens one twice
pub data TapFault : Type 0 where
  NoLinkAt : (line link : ℕ) → TapFault
  TwiceAt : (line link : ℕ) → TapFault

-- a line that opens a link wants one that isn't opened, any other one that is
abbrev pub fault_at : (opened : List ℕ) → (line : ℕ) → TapStep → Option TapFault
fault_at opened line (step.Link n engine rbc at) = if has n opened then Some (TwiceAt line n) else None
fault_at opened line (step.Octets n side text) = if has n opened then None else Some (NoLinkAt line n)

abbrev pub links_opened_behind : TapStep → List ℕ → List ℕ
links_opened_behind (step.Link n engine rbc at) opened = n ∷ opened
links_opened_behind (step.Octets n side text) opened = opened

abbrev pub or_else : Option TapFault → Option TapFault → Option TapFault
or_else None later = later
or_else (Some fault) later = Some fault

-- the first fault behind lines that opened these links
unfoldable pub fault_from : (opened : List ℕ) → List TapLine → Option TapFault
fault_from opened [] = None
fault_from opened (x ∷ rest) = or_else (fault_at opened x.line x.step) (fault_from (links_opened_behind x.step opened) rest)

abbrev pub fault_of_tap_lines : List TapLine → Option TapFault
fault_of_tap_lines lines = fault_from [] lines

-- ---- what the lines say of a link

-- how a link is opened
pub record TapOpening : Type 0 where
  pub engine : ℕ
  pub rbc : ℕ
  pub moment : ℕ

abbrev pub opens_link : ℕ → TapStep → Option TapOpening
opens_link n (step.Link m engine rbc at) = if m == n then Some (record { engine = engine; rbc = rbc; moment = at }) else None
opens_link n (step.Octets m side text) = None

abbrev pub first_opening : Option TapOpening → Option TapOpening → Option TapOpening
first_opening None later = later
first_opening (Some opening) later = Some opening

-- by the first line that opens it
unfoldable pub tap_opening_of_link : ℕ → List TapLine → Option TapOpening
tap_opening_of_link n [] = None
tap_opening_of_link n (x ∷ rest) = first_opening (opens_link n x.step) (tap_opening_of_link n rest)

abbrev pub is_side : Side → Side → Bool
is_side E E = true
is_side E R = false
is_side R E = false
is_side R R = true

abbrev pub piece_of : ℕ → Side → TapStep → List ℕ
piece_of n side (step.Link m engine rbc at) = []
piece_of n side (step.Octets m of text) = if m == n then (if is_side side of then text else []) else []

-- the stream of a side: all its pieces, in their order
unfoldable pub stream_of : ℕ → Side → List TapLine → List ℕ
stream_of n side lines = flat_map (λ x. piece_of n side x.step) lines
