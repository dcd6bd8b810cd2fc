-- What a check says of a recorded trace (this profile): its lines are held octet by octet against those that a replay prints.
use Rattle.std.specs.Prelude.{ℕ, ◌≡◌, ◌+◌, ◌==◌, nat_lt, Bool, true, false, ◌||◌, if◌then◌else◌, List, [], ◌∷◌, length, filter, Option, Some, None, Result, Ok}
use Rattle.std.specs.Prelude.{Err}
use Rattle.std.specs.Str.{bytes_eq}
use Rattle.er_base.specs.Lines.{lines_of, is_skipped}
use Rattle.er_settings.specs.Values.{Settings}
use Rattle.er_trace.specs.declared.entry.Entry.{Entry}
use Rattle.er_end_model.specs.Steps.{Finds}
use Rattle.trace_model.specs.declared.check_verdict.CheckVerdict.{CheckVerdict}
use Rattle.trace_model.specs.declared.check_verdict.CheckVerdict.TheVariants.{Same, Differs, Cut, Missing}
use Rattle.trace_model.specs.declared.replay_fault.ReplayFault.{ReplayFault}
use Rattle.trace_model.specs.declared.replay_fault.ReplayFault.TheVariants.{NoConn, ConnTwice, MomentBack, NoKey, Many, Sink, NoMemory}
use Rattle.trace_model.specs.Printed.{text_of_trace}
use Rattle.trace_model.specs.Replays.{AreTaken, HasFirstRefusedEvent}

-- ---- the lines of a file

unfoldable pub has_line_feed : List ℕ → Bool
has_line_feed [] = false
has_line_feed (x ∷ xs) = x == 10 || has_line_feed xs

-- the part of a file that is read: up to its last LF, with it
unfoldable pub ended_part : List ℕ → List ℕ
ended_part [] = []
ended_part (x ∷ xs) = if has_line_feed (x ∷ xs) then x ∷ ended_part xs else []

-- a line, with its number in the file, from 1
pub record NumberedLine : Type 0 where
  pub number : ℕ
  pub octets : List ℕ

-- those that aren't skipped, where so many lines stand before these
unfoldable pub unskipped : ℕ → List (List ℕ) → List NumberedLine
unskipped before [] = []
unskipped before (line ∷ lines) =
    if is_skipped line then unskipped (before + 1) lines
    else record { number = before + 1; octets = line } ∷ unskipped (before + 1) lines

-- ---- held against the lines that a replay prints

-- the number of the first line that isn't the printed one in its place
unfoldable pub first_difference : List NumberedLine → (printed : List (List ℕ)) → Option ℕ
first_difference [] printed = None
first_difference (line ∷ lines) [] = Some line.number
first_difference (line ∷ lines) (text ∷ printed) =
    if bytes_eq line.octets text then first_difference lines printed else Some line.number

-- the line of an outcome begins with `<`
abbrev pub is_outcome_line : List ℕ → Bool
is_outcome_line [] = false
is_outcome_line (octet ∷ octets) = octet == 60

-- where no line differs, by the number behind the lines that were read
abbrev pub verdict_on_rest : (next : ℕ) → (is_cut is_missing : Bool) → (outcomes : ℕ) → CheckVerdict
verdict_on_rest next is_cut is_missing outcomes = if is_cut then Cut next else if is_missing then Missing next else Same outcomes

abbrev pub verdict_with : Option ℕ → (rest : CheckVerdict) → CheckVerdict
verdict_with (Some line) rest = Differs line
verdict_with None rest = rest

-- a line that differs comes before a last line without LF, and this before a line that is missing
abbrev pub verdict_on_lines : (lines printed : List (List ℕ)) → (is_cut : Bool) → CheckVerdict
verdict_on_lines lines printed is_cut =
    verdict_with (first_difference (unskipped 0 lines) printed)
    (verdict_on_rest (length lines + 1) is_cut (nat_lt (length (unskipped 0 lines)) (length printed)) (length (filter is_outcome_line printed)))

abbrev pub check_verdict : (file printed : List ℕ) → CheckVerdict
check_verdict file printed =
    verdict_on_lines (lines_of (ended_part file)) (lines_of printed) (nat_lt (length (ended_part file)) (length file))

-- ---- what a check answers

-- all events are taken, and this is the verdict on the file
pub record IsJudged (settings : Settings) (finds : Finds) (entries : List Entry) (file : List ℕ) (verdict : CheckVerdict) : Type 0 where
  pub taken : AreTaken settings finds entries
  pub is : verdict ≡ check_verdict file (text_of_trace settings finds entries)

-- or one isn't, whatever the lines before it; or memory ran out
abbrev pub IsChecked : Settings → Finds → List Entry → (file : List ℕ) → Result CheckVerdict ReplayFault → Type 0
IsChecked s f entries file (Ok verdict) = IsJudged s f entries file verdict
IsChecked s f entries file (Err (NoConn line conn)) = HasFirstRefusedEvent s f entries (NoConn line conn)
IsChecked s f entries file (Err (ConnTwice line conn)) = HasFirstRefusedEvent s f entries (ConnTwice line conn)
IsChecked s f entries file (Err (MomentBack line was moment)) = HasFirstRefusedEvent s f entries (MomentBack line was moment)
IsChecked s f entries file (Err (NoKey line engine rbc)) = HasFirstRefusedEvent s f entries (NoKey line engine rbc)
IsChecked s f entries file (Err (Many line live)) = HasFirstRefusedEvent s f entries (Many line live)
IsChecked s f entries file (Err Sink) = ⊥
IsChecked s f entries file (Err (NoMemory want)) = Unit {0}
