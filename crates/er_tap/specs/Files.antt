-- A tap (this profile): the header `tap 1`, then a line for each link and for each piece of octets. What a file says, or its first faulty
-- line with its first fault.
use Rattle.std.specs.Prelude.{ℕ, nat_lt, Bool, true, false, ◌&&◌, if◌then◌else◌, List, [], ◌∷◌, length, Result, Ok, Err, codes}
use Rattle.std.specs.Str.{bytes_eq}
use Rattle.er_base.specs.declared.why.Why.{Why}
use Rattle.er_base.specs.declared.why.Why.TheVariants.{Header, Word, Long}
use Rattle.er_base.specs.declared.text_fault.TextFault.{TextFault}
use Rattle.er_base.specs.declared.text_fault.TextFault.TheVariants.{At}
use Rattle.er_base.specs.Arguments.{◌>>=◌}
use Rattle.er_base.specs.LineFaults.{line_read}
use Rattle.er_base.specs.Lines.{Row, rows_of, lines_of}
use Rattle.er_tap.specs.declared.tap.Tap.{Tap}
use Rattle.er_tap.specs.declared.tap_line.TapLine.{TapLine}
use Rattle.er_tap.specs.declared.tap_step.TapStep.{TapStep}
use Rattle.er_tap.specs.Table.{tap_table, step_made}

-- ---- lines

-- what a line behind the header says, or its first fault
unfoldable pub line_says : List (List ℕ) → Result TapStep Why
line_says [] = Err Word
line_says (name ∷ words) = line_read tap_table name words >>= λ read. Ok (step_made read.0 read.1)

abbrev pub tap_lines_with_first : TapLine → Result (List TapLine) TextFault → Result (List TapLine) TextFault
tap_lines_with_first line (Err fault) = Err fault
tap_lines_with_first line (Ok lines) = Ok (line ∷ lines)

-- a line before those that follow it: the first faulty line counts
abbrev pub before_rest : ℕ → Result TapStep Why → Result (List TapLine) TextFault → Result (List TapLine) TextFault
before_rest number (Err why) rest = Err (At number why)
before_rest number (Ok said) rest = tap_lines_with_first (record { line = number; step = said }) rest

-- all lines behind the header
unfoldable pub lines_said : List Row → Result (List TapLine) TextFault
lines_said [] = Ok []
lines_said (row ∷ rows) = before_rest row.number (line_says row.words) (lines_said rows)

-- ---- the file

-- `tap 1` and nothing besides
unfoldable pub is_header : List (List ℕ) → Bool
is_header [] = false
is_header (tap ∷ []) = false
is_header (tap ∷ version ∷ []) = bytes_eq tap (codes "tap") && bytes_eq version (codes "1")
is_header (tap ∷ version ∷ more ∷ words) = false

abbrev pub tap_from : Result (List TapLine) TextFault → Result Tap TextFault
tap_from (Err fault) = Err fault
tap_from (Ok lines) = Ok (record { lines = lines })

abbrev pub behind_header : ℕ → Bool → List Row → Result Tap TextFault
behind_header number false rows = Err (At number Header)
behind_header number true rows = tap_from (lines_said rows)

-- the first line that isn't skipped is the header; a file without such a line is faulty at line 1
abbrev pub tap_in : List Row → Result Tap TextFault
tap_in [] = Err (At 1 Header)
tap_in (header ∷ rows) = behind_header header.number (is_header header.words) rows

-- what a file says, or its first fault; a file has at most 16,777,216 octets, and a longer one is faulty as a whole
unfoldable pub tap_of : List ℕ → Result Tap TextFault
tap_of text = if nat_lt 16777216 (length text) then Err (At 0 Long) else tap_in (rows_of 0 (lines_of text))
