-- A script (this profile): the header `relay 1`, then its lines. What a file says, or its first faulty line with its first fault.
use Rattle.std.specs.Prelude.{ℕ, nat_lt, Bool, true, false, ◌&&◌, if◌then◌else◌, List, [], ◌∷◌, length, Result, Ok, Err, codes}
use Rattle.std.specs.Str.{bytes_eq}
use Rattle.er_base.specs.declared.why.Why.{Why}
use Rattle.er_base.specs.declared.why.Why.TheVariants.{Header, Word, Long}
use Rattle.er_base.specs.declared.text_fault.TextFault.{TextFault}
use Rattle.er_base.specs.declared.text_fault.TextFault.TheVariants.{At}
use Rattle.er_base.specs.Arguments.{◌>>=◌}
use Rattle.er_base.specs.LineFaults.{line_read}
use Rattle.er_base.specs.Lines.{Row, rows_of, lines_of}
use Rattle.relay_script.specs.declared.script.Script.{Script}
use Rattle.relay_script.specs.declared.script_line.ScriptLine.{ScriptLine}
use Rattle.relay_script.specs.Table.{script_table, script_line_made}

-- ---- lines

-- what a line behind the header says, or its first fault
unfoldable pub script_line_says : List (List ℕ) → Result ScriptLine Why
script_line_says [] = Err Word
script_line_says (name ∷ words) = line_read script_table name words >>= λ read. Ok (script_line_made read.0 read.1)

abbrev pub script_lines_with_first : ScriptLine → Result (List ScriptLine) TextFault → Result (List ScriptLine) TextFault
script_lines_with_first line (Err fault) = Err fault
script_lines_with_first line (Ok lines) = Ok (line ∷ lines)

-- a line before those that follow it: the first faulty line counts
abbrev pub before_script_lines : ℕ → Result ScriptLine Why → Result (List ScriptLine) TextFault → Result (List ScriptLine) TextFault
before_script_lines number (Err why) rest = Err (At number why)
before_script_lines number (Ok line) rest = script_lines_with_first line rest

-- all lines behind the header
unfoldable pub script_lines_said : List Row → Result (List ScriptLine) TextFault
script_lines_said [] = Ok []
script_lines_said (row ∷ rows) = before_script_lines row.number (script_line_says row.words) (script_lines_said rows)

-- ---- the file

-- `relay 1` and nothing besides
unfoldable pub is_script_header : List (List ℕ) → Bool
is_script_header [] = false
is_script_header (relay ∷ []) = false
is_script_header (relay ∷ version ∷ []) = bytes_eq relay (codes "relay") && bytes_eq version (codes "1")
is_script_header (relay ∷ version ∷ more ∷ words) = false

abbrev pub script_from : Result (List ScriptLine) TextFault → Result Script TextFault
script_from (Err fault) = Err fault
script_from (Ok lines) = Ok (record { lines = lines })

abbrev pub behind_script_header : ℕ → Bool → List Row → Result Script TextFault
behind_script_header number false rows = Err (At number Header)
behind_script_header number true rows = script_from (script_lines_said rows)

-- the first line that isn't skipped is the header; a file without such a line is faulty at line 1
abbrev pub script_in : List Row → Result Script TextFault
script_in [] = Err (At 1 Header)
script_in (header ∷ rows) = behind_script_header header.number (is_script_header header.words) rows

-- what a file says, or its first fault; a file has at most 16,777,216 octets, and a longer one is faulty as a whole
unfoldable pub script_of : List ℕ → Result Script TextFault
script_of text = if nat_lt 16777216 (length text) then Err (At 0 Long) else script_in (rows_of 0 (lines_of text))
