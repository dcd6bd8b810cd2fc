-- What the definitions of a trace imply: what is printed is read again.
use Rattle.std.specs.Prelude.{ℕ, ◌≡◌, ◌+◌, ◌<◌, ◌≤◌, ◌^◌, List, [], ◌∷◌, length, map, Ok}
use Rattle.er_base.specs.LineTexts.{lines_text}
use Rattle.er_settings.specs.Values.{Settings}
use Rattle.er_settings.specs.Ranges.{AllAllowed}
use Rattle.er_trace.specs.declared.entry.Entry.{Entry}
use Rattle.er_trace.specs.Outcomes.{TraceOutcome}
use Rattle.er_trace.specs.Files.{trace_of}
use Rattle.er_trace.specs.Texts.{header_words, entry_words, outcome_words, IsReadableEntry, IsTellable}

-- lines behind a header: events, whose line numbers don't matter, and outcomes of connections
pub data PrintedLine : Type 0 where
  Event : Entry → PrintedLine
  Told : (conn : ℕ) → TraceOutcome → PrintedLine

abbrev pub printed_words : PrintedLine → List (List ℕ)
printed_words (Event entry) = entry_words entry.moment entry.conn entry.event
printed_words (Told conn outcome) = outcome_words conn outcome

-- those that can be read
abbrev pub CanBePrinted : PrintedLine → Type 0
CanBePrinted (Event entry) = IsReadableEntry entry
CanBePrinted (Told conn outcome) = (conn < 2 ^ 64) × IsTellable outcome

abbrev pub AllCanBePrinted : List PrintedLine → Type 0
AllCanBePrinted [] = Unit {0}
AllCanBePrinted (line ∷ lines) = CanBePrinted line × AllCanBePrinted lines

-- the text
abbrev pub text_printed : Settings → List PrintedLine → List ℕ
text_printed settings lines = lines_text (header_words settings ∷ map printed_words lines)

-- the events among lines, each with its line, where so many stand before them
abbrev pub entries_printed : ℕ → List PrintedLine → List Entry
entries_printed before [] = []
entries_printed before (Event entry ∷ lines) = record entry { line = before + 1 } ∷ entries_printed (before + 1) lines
entries_printed before (Told conn outcome ∷ lines) = entries_printed (before + 1) lines

-- the text is read as these events
abbrev pub PrintedIsRead : Type 0
PrintedIsRead =
    (settings : Settings) (lines : List PrintedLine) → AllAllowed settings → settings.modulo ≡ 8 → AllCanBePrinted lines
    → length (text_printed settings lines) ≤ 16777216
    → trace_of (text_printed settings lines) ≡ Ok (record { settings = settings; entries = entries_printed 1 lines })
