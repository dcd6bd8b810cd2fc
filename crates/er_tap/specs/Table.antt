-- The table of the lines of a tap (this profile): the word of each, and the kinds of the words behind it.
use Rattle.std.specs.Prelude.{ℕ, true, false, List, [], ◌∷◌, Option, Result, codes}
use Rattle.std.specs.List.{find}
use Rattle.std.specs.Str.{bytes_eq}
use Rattle.er_base.specs.declared.side.Side.{Side}
use Rattle.er_base.specs.declared.why.Why.{Why}
use Rattle.er_base.specs.Arguments.{number_argument, side_argument, text_argument}
use Rattle.er_base.specs.LineFaults.{Table, Values}
use Rattle.er_tap.specs.declared.line_name.LineName.{LineName}
use Rattle.er_tap.specs.declared.line_name.LineName.TheVariants.{Link, Octets}
use Rattle.er_tap.specs.declared.tap_step.TapStep.{TapStep}
use Rattle.er_tap.specs.declared.tap_step.TapStep.TheVariants as step

-- the kinds of arguments: a decimal number from a least to a greatest one, an end, HEX of at most 4,096 octets
pub data TapArgumentKind : Type 0 where
  Decimal : ℕ → ℕ → TapArgumentKind
  End : TapArgumentKind
  Hex : TapArgumentKind

-- N, the number of a link; E and R, ETCS numbers; MOMENT, at most 10 ^ 15 milliseconds
abbrev pub link_number : TapArgumentKind
link_number = Decimal 1 64

abbrev pub etcs_number : TapArgumentKind
etcs_number = Decimal 0 16777215

abbrev pub moment : TapArgumentKind
moment = Decimal 0 1000000000000000

-- what an argument of a kind means
abbrev pub Meaning : TapArgumentKind → Type 0
Meaning (Decimal least most) = ℕ
Meaning End = Side
Meaning Hex = List ℕ

-- a word, read as an argument of a kind
abbrev pub argument_of : (kind : TapArgumentKind) → List ℕ → Result (Meaning kind) Why
argument_of (Decimal least most) word = number_argument least most word
argument_of End word = side_argument word
argument_of Hex word = text_argument 4096 word

-- the first word of a line
abbrev pub line_word : LineName → List ℕ
line_word Link = codes "link"
line_word Octets = codes "octets"

-- all lines behind the header
abbrev pub all_lines : List LineName
all_lines = Link ∷ Octets ∷ []

-- the line that a first word names, where it names one
abbrev pub line_named : List ℕ → Option LineName
line_named word = find (λ name. bytes_eq word (line_word name)) all_lines

-- the words behind that of the line: link N E R MOMENT, octets N S HEX
abbrev pub line_kinds : LineName → List TapArgumentKind
line_kinds Link = link_number ∷ etcs_number ∷ etcs_number ∷ moment ∷ []
line_kinds Octets = link_number ∷ End ∷ Hex ∷ []

-- what arguments say
abbrev pub step_made : (name : LineName) → Values Meaning (line_kinds name) → TapStep
step_made Link (n, (e, (r, (at, end)))) = step.Link n e r at
step_made Octets (n, (side, (hex, end))) = step.Octets n side hex

-- each line may stand anywhere
abbrev pub tap_table : Table LineName TapArgumentKind Meaning
tap_table =
    record { line_named = line_named; kinds_of = line_kinds; read = argument_of; is_of_level = λ name. true; is_late = λ name. false }
