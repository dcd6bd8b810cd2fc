-- A trace (this profile): the header, then a line for each event and each outcome. What a file says, or its first faulty line with its
-- first fault.
use Rattle.std.specs.Prelude.{ℕ, nat_lt, true, false, if◌then◌else◌, List, [], ◌∷◌, length, Option, Some, None, Result, Ok, Err, codes}
use Rattle.std.specs.Str.{bytes_eq}
use Rattle.er_base.specs.declared.why.Why.{Why}
use Rattle.er_base.specs.declared.why.Why.TheVariants.{Header, Word, Count, Long}
use Rattle.er_base.specs.declared.text_fault.TextFault.{TextFault}
use Rattle.er_base.specs.declared.text_fault.TextFault.TheVariants.{At}
use Rattle.er_base.specs.Arguments.{◌>>=◌}
use Rattle.er_base.specs.LineFaults.{Table, Values, line_read}
use Rattle.er_base.specs.Lines.{Row, rows_of, lines_of}
use Rattle.er_settings.specs.Values.{Settings}
use Rattle.er_trace.specs.declared.argument_kind.ArgumentKind.{ArgumentKind}
use Rattle.er_trace.specs.declared.entry.Entry.{Entry}
use Rattle.er_trace.specs.declared.event_name.EventName.{EventName}
use Rattle.er_trace.specs.declared.outcome_name.OutcomeName.{OutcomeName}
use Rattle.er_trace.specs.declared.refusal_name.RefusalName.{RefusalName}
use Rattle.er_trace.specs.declared.said.Said.{Said}
use Rattle.er_trace.specs.declared.said.Said.TheVariants.{Happens, Tells}
use Rattle.er_trace.specs.declared.trace.Trace.{Trace}
use Rattle.er_trace.specs.Headers.{header_settings}
use Rattle.er_trace.specs.Table.{moment, any_number, Meaning, argument_of, event_named, event_kinds, event_made, outcome_named, outcome_kinds, refusal_named}
use Rattle.er_trace.specs.Table.{refusal_kinds}

-- a table in which each line may stand anywhere
abbrev table_of : {Name : Type 0} → (List ℕ → Option Name) → (Name → List ArgumentKind) → Table Name ArgumentKind Meaning
table_of named kinds =
    record { line_named = named; kinds_of = kinds; read = argument_of; is_of_level = λ name. true; is_late = λ name. false }

-- ---- events: `> MOMENT CONN`, the word of the event, and those behind it

abbrev pub event_line_kinds : EventName → List ArgumentKind
event_line_kinds name = moment ∷ any_number ∷ event_kinds name

abbrev pub event_table : Table EventName ArgumentKind Meaning
event_table = table_of event_named event_line_kinds

abbrev pub event_meant : (name : EventName) → Values Meaning (event_line_kinds name) → Said
event_meant name (at, (conn, values)) = Happens at conn (event_made name values)

-- the word of the event is that of the table; a line that is too short to have one has too few words
unfoldable pub event_line : List (List ℕ) → Result Said Why
event_line [] = Err Count
event_line (at ∷ []) = Err Count
event_line (at ∷ conn ∷ []) = Err Count
event_line (at ∷ conn ∷ name ∷ words) =
    line_read event_table name (at ∷ conn ∷ words) >>= λ read. Ok (event_meant read.0 read.1)

-- ---- outcomes: `< CONN`, the word of the outcome, and those behind it

abbrev pub outcome_table : Table OutcomeName ArgumentKind Meaning
outcome_table = table_of outcome_named (λ name. any_number ∷ outcome_kinds name)

abbrev pub refusal_table : Table RefusalName ArgumentKind Meaning
refusal_table = table_of refusal_named (λ name. any_number ∷ refusal_kinds name)

-- behind `refused`
unfoldable pub refusal_line : List ℕ → List (List ℕ) → Result (Unit {0}) Why
refusal_line conn [] = Err Count
refusal_line conn (name ∷ words) = line_read refusal_table name (conn ∷ words) >>= λ read. Ok tt

unfoldable pub outcome_line_check : List (List ℕ) → Result (Unit {0}) Why
outcome_line_check [] = Err Count
outcome_line_check (conn ∷ []) = Err Count
outcome_line_check (conn ∷ name ∷ words) =
    if bytes_eq name (codes "refused") then refusal_line conn words
    else (line_read outcome_table name (conn ∷ words) >>= λ read. Ok tt)

-- ---- lines

-- what a line behind the header says, or its first fault
unfoldable pub line_says : List (List ℕ) → Result Said Why
line_says [] = Err Word
line_says (mark ∷ words) =
    if bytes_eq mark (codes ">") then event_line words
    else if bytes_eq mark (codes "<") then (outcome_line_check words >>= λ read. Ok Tells)
    else Err Word

-- an event before those that follow it
abbrev pub with_entry : Entry → Result (List Entry) TextFault → Result (List Entry) TextFault
with_entry entry (Err fault) = Err fault
with_entry entry (Ok entries) = Ok (entry ∷ entries)

-- a line before those that follow it: the first faulty line counts, and outcomes are dropped
abbrev pub before_rest : ℕ → Result Said Why → Result (List Entry) TextFault → Result (List Entry) TextFault
before_rest number (Err why) rest = Err (At number why)
before_rest number (Ok (Happens at conn event)) rest =
    with_entry (record { line = number; moment = at; conn = conn; event = event }) rest
before_rest number (Ok Tells) rest = rest

-- all lines behind the header
unfoldable pub entries_of : List Row → Result (List Entry) TextFault
entries_of [] = Ok []
entries_of (row ∷ rows) = before_rest row.number (line_says row.words) (entries_of rows)

-- ---- the file

-- the events behind a header
abbrev pub trace_from : Settings → Result (List Entry) TextFault → Result Trace TextFault
trace_from settings (Err fault) = Err fault
trace_from settings (Ok entries) = Ok (record { settings = settings; entries = entries })

abbrev pub behind_header : ℕ → Option Settings → List Row → Result Trace TextFault
behind_header number None rows = Err (At number Header)
behind_header number (Some settings) rows = trace_from settings (entries_of rows)

-- the first line that isn't skipped is the header; a file without such a line is faulty at line 1
abbrev pub trace_in : List Row → Result Trace TextFault
trace_in [] = Err (At 1 Header)
trace_in (header ∷ rows) = behind_header header.number (header_settings header.words) rows

-- what a file says, or its first fault; a file has at most 16,777,216 octets, and a longer one is faulty as a whole
unfoldable pub trace_of : List ℕ → Result Trace TextFault
trace_of text = if nat_lt 16777216 (length text) then Err (At 0 Long) else trace_in (rows_of 0 (lines_of text))
