-- The printed text of a list of events (this profile): the header, then each event's line followed by those of its outcomes.
use Rattle.std.specs.Prelude.{ℕ, List, [], ◌∷◌, ◌++◌, map}
use Rattle.er_base.specs.LineTexts.{line_text, lines_text}
use Rattle.er_settings.specs.Values.{Settings}
use Rattle.er_trace.specs.declared.entry.Entry.{Entry}
use Rattle.er_trace.specs.Outcomes as trace
use Rattle.er_trace.specs.Texts.{header_words, entry_words, outcome_words}
use Rattle.er_end_model.specs.Outcomes.{SendRefusal, RefusedReleased, RefusedNotConnected, RefusedLength, RefusedFull, Outcome, ConnectedTo, Accepted, Taken}
use Rattle.er_end_model.specs.Outcomes.{NothingToTake, Refused, WasReleased, Octets}
use Rattle.er_end_model.specs.Steps.{Finds}
use Rattle.trace_model.specs.Connections.{happens, end_at}

-- an outcome as a trace tells it
abbrev pub refused : SendRefusal → trace.TraceOutcome
refused (RefusedReleased release) = trace.RefusedReleased release
refused RefusedNotConnected = trace.RefusedNotConnected
refused (RefusedLength octets) = trace.RefusedLength octets
refused (RefusedFull waiting) = trace.RefusedFull waiting

abbrev pub trace_outcome_of : Outcome → trace.TraceOutcome
trace_outcome_of (ConnectedTo peer) = trace.Connected peer
trace_outcome_of (Accepted message) = trace.Accepted message
trace_outcome_of (Taken message) = trace.Taken message
trace_outcome_of NothingToTake = trace.Empty
trace_outcome_of (Refused refusal) = refused refusal
trace_outcome_of (WasReleased release) = trace.Released release
trace_outcome_of (Octets octets) = trace.Octets octets

-- the lines of outcomes at a connection
unfoldable pub outcomes_text : (conn : ℕ) → List Outcome → List ℕ
outcomes_text conn outcomes = lines_text (map (λ o. outcome_words conn (trace_outcome_of o)) outcomes)

-- the outcomes of an event, behind those before it
abbrev pub outcomes_at : Settings → Finds → List Entry → Entry → List Outcome
outcomes_at settings finds before entry =
    (happens settings finds entry.moment entry.event (end_at settings finds entry.conn before)).1

-- the lines of an event
abbrev pub entry_text : Settings → Finds → List Entry → Entry → List ℕ
entry_text settings finds before entry =
    line_text (entry_words entry.moment entry.conn entry.event) ++ outcomes_text entry.conn (outcomes_at settings finds before entry)

-- the lines of events, behind those before them
unfoldable pub entries_text : Settings → Finds → List Entry → List Entry → List ℕ
entries_text settings finds before [] = []
entries_text settings finds before (entry ∷ entries) =
    entry_text settings finds before entry ++ entries_text settings finds (before ++ entry ∷ []) entries

-- the whole text
abbrev pub text_of_trace : Settings → Finds → List Entry → List ℕ
text_of_trace settings finds entries = line_text (header_words settings) ++ entries_text settings finds [] entries
