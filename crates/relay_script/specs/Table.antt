-- The table of the lines of a script (this profile): the word of each, and the kinds of the words behind it.
use Rattle.std.specs.Prelude.{ℕ, ◌==◌, true, false, if◌then◌else◌, List, [], ◌∷◌, Option, Result, Ok, Err, codes}
use Rattle.std.specs.List.{find}
use Rattle.std.specs.Str.{bytes_eq}
use Rattle.er_base.specs.declared.side.Side.{Side}
use Rattle.er_base.specs.declared.why.Why.{Why}
use Rattle.er_base.specs.declared.why.Why.TheVariants.{Value}
use Rattle.er_base.specs.Arguments.{◌>>=◌, some_or, number_argument, side_argument, text_argument}
use Rattle.er_base.specs.LineFaults.{Table, Values}
use Rattle.relay_script.specs.declared.change.Change.{Change}
use Rattle.relay_script.specs.declared.change.Change.TheVariants as change
use Rattle.relay_script.specs.declared.change_name.ChangeName.{ChangeName}
use Rattle.relay_script.specs.declared.change_name.ChangeName.TheVariants.{Lose, Repeat, Alter, Put, Delay, Close}
use Rattle.relay_script.specs.declared.script_line.ScriptLine.{ScriptLine}
use Rattle.relay_script.specs.declared.unit_kind.UnitKind.{UnitKind}
use Rattle.relay_script.specs.Kinds.{kind_named}

-- the kinds of arguments: a decimal number from a least to a greatest one, a side, a kind of units, HEX of at most 4,096 octets, one
-- octet other than 00
pub data ScriptArgumentKind : Type 0 where
  Decimal : ℕ → ℕ → ScriptArgumentKind
  Sender : ScriptArgumentKind
  OfUnit : ScriptArgumentKind
  Hex : ScriptArgumentKind
  Mask : ScriptArgumentKind

-- K, which of the units of a kind; PLACE, which octet; MS, milliseconds
abbrev pub unit_number : ScriptArgumentKind
unit_number = Decimal 1 1000000000

abbrev pub octet_place : ScriptArgumentKind
octet_place = Decimal 1 1000000000

abbrev pub delay_time : ScriptArgumentKind
delay_time = Decimal 0 1000000000

-- what an argument of a kind means
abbrev pub ScriptMeaning : ScriptArgumentKind → Type 0
ScriptMeaning (Decimal least most) = ℕ
ScriptMeaning Sender = Side
ScriptMeaning OfUnit = UnitKind
ScriptMeaning Hex = List ℕ
ScriptMeaning Mask = ℕ

-- KIND: a word that names none is out of range
abbrev pub kind_argument : List ℕ → Result UnitKind Why
kind_argument word = some_or Value (kind_named word)

abbrev pub only_mask : List ℕ → Result ℕ Why
only_mask [] = Err Value
only_mask (octet ∷ []) = if octet == 0 then Err Value else Ok octet
only_mask (octet ∷ another ∷ octets) = Err Value

-- MASK
unfoldable pub octet_mask_argument : List ℕ → Result ℕ Why
octet_mask_argument word = text_argument 4096 word >>= only_mask

-- a word, read as an argument of a kind
abbrev pub script_argument_of : (kind : ScriptArgumentKind) → List ℕ → Result (ScriptMeaning kind) Why
script_argument_of (Decimal least most) word = number_argument least most word
script_argument_of Sender word = side_argument word
script_argument_of OfUnit word = kind_argument word
script_argument_of Hex word = text_argument 4096 word
script_argument_of Mask word = octet_mask_argument word

-- the first word of a line
abbrev pub change_word : ChangeName → List ℕ
change_word Lose = codes "lose"
change_word Repeat = codes "repeat"
change_word Alter = codes "alter"
change_word Put = codes "put"
change_word Delay = codes "delay"
change_word Close = codes "close"

abbrev pub all_changes : List ChangeName
all_changes = Lose ∷ Repeat ∷ Alter ∷ Put ∷ Delay ∷ Close ∷ []

-- the line that a first word begins, where it begins one
abbrev pub change_named : List ℕ → Option ChangeName
change_named word = find (λ name. bytes_eq word (change_word name)) all_changes

-- the words behind that of the line: S KIND K, and of three lines more
abbrev pub change_kinds : ChangeName → List ScriptArgumentKind
change_kinds Lose = Sender ∷ OfUnit ∷ unit_number ∷ []
change_kinds Repeat = Sender ∷ OfUnit ∷ unit_number ∷ []
change_kinds Alter = Sender ∷ OfUnit ∷ unit_number ∷ octet_place ∷ Mask ∷ []
change_kinds Put = Sender ∷ OfUnit ∷ unit_number ∷ Hex ∷ []
change_kinds Delay = Sender ∷ OfUnit ∷ unit_number ∷ delay_time ∷ []
change_kinds Close = Sender ∷ OfUnit ∷ unit_number ∷ []

abbrev pub line_that : Side → UnitKind → ℕ → Change → ScriptLine
line_that side kind number change = record { side = side; kind = kind; number = number; change = change }

-- what arguments say
abbrev pub script_line_made : (name : ChangeName) → Values ScriptMeaning (change_kinds name) → ScriptLine
script_line_made Lose (s, (kind, (k, end))) = line_that s kind k change.Lose
script_line_made Repeat (s, (kind, (k, end))) = line_that s kind k change.Repeat
script_line_made Alter (s, (kind, (k, (place, (mask, end))))) = line_that s kind k (change.Alter place mask)
script_line_made Put (s, (kind, (k, (hex, end)))) = line_that s kind k (change.Put hex)
script_line_made Delay (s, (kind, (k, (ms, end)))) = line_that s kind k (change.Delay ms)
script_line_made Close (s, (kind, (k, end))) = line_that s kind k change.Close

-- each line may stand anywhere
abbrev pub script_table : Table ChangeName ScriptArgumentKind ScriptMeaning
script_table =
    record {
      line_named = change_named;
      kinds_of = change_kinds;
      read = script_argument_of;
      is_of_level = λ name. true;
      is_late = λ name. false;
    }
