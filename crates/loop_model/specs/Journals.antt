-- The journal of a loop: what came at the ends of its connections, and what came of it; and how it is printed (this profile).
use Rattle.std.specs.Prelude.{ℕ, List, [], ◌∷◌, ◌++◌, map}
use Rattle.er_base.specs.LineTexts.{line_text}
use Rattle.er_settings.specs.Values.{Settings}
use Rattle.er_end_model.specs.Outcomes.{Outcome}
use Rattle.er_trace.specs.declared.entry.Entry.{Entry as Event_line}
use Rattle.er_trace.specs.declared.event.Event.{Event}
use Rattle.er_trace.specs.Texts.{header_words, entry_words}
use Rattle.trace_model.specs.Printed.{outcomes_text}

-- an event at a connection, at a moment, and its outcomes
pub record JournalEntry : Type 0 where
  pub moment : ℕ
  pub conn : ℕ
  pub event : Event
  pub outcomes : List Outcome

-- the lines of an event: its own, then those of its outcomes
unfoldable pub entry_text : JournalEntry → List ℕ
entry_text x = line_text (entry_words x.moment x.conn x.event) ++ outcomes_text x.conn x.outcomes

-- the text of a journal behind the header
abbrev pub text : List JournalEntry → List ℕ
text [] = []
text (x ∷ xs) = entry_text x ++ text xs

-- the header, which says the settings
unfoldable pub trace_header : Settings → List ℕ
trace_header settings = line_text (header_words settings)

-- an event of a journal as one of a trace, whose number of a line doesn't matter
abbrev pub trace_line_of : JournalEntry → Event_line
trace_line_of x = record { line = 0; moment = x.moment; conn = x.conn; event = x.event }

abbrev pub trace_lines_of : List JournalEntry → List Event_line
trace_lines_of xs = map trace_line_of xs
