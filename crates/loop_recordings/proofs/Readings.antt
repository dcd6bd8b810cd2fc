-- The recording of a journal is read as its events.
use Rattle.loop_model.specs.Ends.{ModelEnd}
use Rattle.std.proofs.Common.{◌≡◌, ℕ, ◌+◌, ◌<◌, ◌≤◌, ◌^◌, inl, List, [], ◌∷◌, ◌++◌, map, length, Ok, refl, sym, ◌∙◌, ap, subst, append_assoc, arith}
use Rattle.er_base.specs.LineTexts.{line_text, lines_text}
use Rattle.er_settings.specs.Values.{Settings}
use Rattle.er_settings.specs.Ranges.{AllAllowed}
use Rattle.er_settings.specs.Making.{usual_settings}
use Rattle.safety_automaton.specs.Keys.{key_at}
use Rattle.er_end_model.specs.Outcomes.{SendRefusal, RefusedReleased, RefusedNotConnected, RefusedLength, RefusedFull, Outcome, ConnectedTo, Accepted, Taken, NothingToTake, Refused, WasReleased, Octets}
use Rattle.er_end_model.specs.Steps.{Finds}
use Rattle.er_trace.specs.declared.entry.Entry.{Entry as Event_line}
use Rattle.er_trace.specs.Files.{trace_of}
use Rattle.er_trace.specs.Laws.{PrintedLine, Event, Told, printed_words, AllCanBePrinted, text_printed, entries_printed, PrintedIsRead}
use Rattle.er_trace.specs.Texts.{header_words, entry_words, IsTellable, AreReadableEntries}
use Rattle.trace_model.specs.Printed.{refused, trace_outcome_of, outcomes_text}
use Rattle.loop_model.specs.Journals.{JournalEntry, entry_text, text, trace_header, trace_line_of, trace_lines_of}
use Rattle.loop_model.specs.Outs.{Out}
use Rattle.loop_model.specs.Loops.{Plan, Course, printed}
use Rattle.loop_model.specs.Laws.{HaveModelOutcomes, IsIsolated}
use Rattle.loop_model.specs.Recordings.{AreEvents}
use Rattle.loop_model.specs.Grammar.{RefusalHasOctets, HasOctets, HaveOctets, AreInGrammar}
use Rattle.loop_recordings.specs.Shorts.{IsShortRefusal, IsShort, AreShort, OutcomesAreShort}
use Rattle.loop_recordings.specs.Recordings.{recording_of, IsRecorded}

-- ---- the lines of a journal

-- those of outcomes, before others
lines_told : ℕ → List Outcome → List PrintedLine → List PrintedLine
lines_told conn [] rest = rest
lines_told conn (outcome ∷ outcomes) rest = Told conn (trace_outcome_of outcome) ∷ lines_told conn outcomes rest

lines_printed : List JournalEntry → List PrintedLine
lines_printed [] = []
lines_printed (x ∷ xs) = Event (trace_line_of x) ∷ lines_told x.conn x.outcomes (lines_printed xs)

text_told : (conn : ℕ) (outcomes : List Outcome) (rest : List PrintedLine)
    → lines_text (map printed_words (lines_told conn outcomes rest)) ≡ outcomes_text conn outcomes ++ lines_text (map printed_words rest)
unfolding outcomes_text lines_told
text_told conn [] rest = refl
text_told conn (outcome ∷ outcomes) rest =
    let line = line_text (printed_words (Told conn (trace_outcome_of outcome))) in
    ap (λ z. line ++ z) (text_told conn outcomes rest)
    ∙ sym (append_assoc line (outcomes_text conn outcomes) (lines_text (map printed_words rest)))

text_lines : (xs : List JournalEntry) → lines_text (map printed_words (lines_printed xs)) ≡ text xs
unfolding entry_text lines_printed
text_lines [] = refl
text_lines (x ∷ xs) =
    let line = line_text (entry_words x.moment x.conn x.event) in
    ap (λ z. line ++ z) (text_told x.conn x.outcomes (lines_printed xs) ∙ ap (λ z. outcomes_text x.conn x.outcomes ++ z) (text_lines xs))
    ∙ sym (append_assoc line (outcomes_text x.conn x.outcomes) (text xs))

-- ---- their events

abbrev unnumbered : Event_line → Event_line
unnumbered e = record e { line = 0 }

events_told : (conn : ℕ) (outcomes : List Outcome) (rest : List PrintedLine) (events : List Event_line)
    → ((before : ℕ) → map unnumbered (entries_printed before rest) ≡ events)
    → (before : ℕ) → map unnumbered (entries_printed before (lines_told conn outcomes rest)) ≡ events
unfolding lines_told
events_told conn [] rest events same before = same before
events_told conn (outcome ∷ outcomes) rest events same before = events_told conn outcomes rest events same (before + 1)

events_printed : (xs : List JournalEntry) (before : ℕ) → AreEvents (entries_printed before (lines_printed xs)) xs
unfolding lines_printed
events_printed [] before = refl
events_printed (x ∷ xs) before =
    ap (λ z. trace_line_of x ∷ z) (events_told x.conn x.outcomes (lines_printed xs) (trace_lines_of xs) (events_printed xs) (before + 1))

-- ---- each of them can be read

tellable_refusal : (refusal : SendRefusal) → RefusalHasOctets refusal → IsShortRefusal refusal → IsTellable (refused refusal)
tellable_refusal (RefusedReleased release) octets short = octets
tellable_refusal RefusedNotConnected octets short = tt
tellable_refusal (RefusedLength found) octets short = octets
tellable_refusal (RefusedFull waiting) octets short = octets

tellable : (outcome : Outcome) → HasOctets outcome → IsShort outcome → IsTellable (trace_outcome_of outcome)
tellable (ConnectedTo peer) octets short = short
tellable (Accepted message) octets short = (let few = short.1 in omega (arith, few), octets)
tellable (Taken message) octets short = (let few = short.1 in omega (arith, few), octets)
tellable NothingToTake octets short = tt
tellable (Refused refusal) octets short = tellable_refusal refusal octets short
tellable (WasReleased release) octets short = octets
tellable (Octets text) octets short = (omega (arith, short), octets)

can_tell : (conn : ℕ) (outcomes : List Outcome) (rest : List PrintedLine) → conn < 2 ^ 64 → HaveOctets outcomes → AreShort outcomes → AllCanBePrinted rest
    → AllCanBePrinted (lines_told conn outcomes rest)
unfolding lines_told
can_tell conn [] rest fits octets short can = can
can_tell conn (outcome ∷ outcomes) rest fits octets short can =
    ((fits, tellable outcome octets.0 short.0), can_tell conn outcomes rest fits octets.1 short.1 can)

readable_more : (before : List Event_line) (e : Event_line) → AreReadableEntries before → AreReadableEntries (e ∷ []) → AreReadableEntries (before ++ e ∷ [])
readable_more [] e p q = q
readable_more (b ∷ before) e p q = (p.0, readable_more before e p.1 q)

can_print : OutcomesAreShort → (finds : Finds) (before : List Event_line) (xs : List JournalEntry) → AreReadableEntries before → AreInGrammar xs
    → HaveModelOutcomes usual_settings finds before xs → AllCanBePrinted (lines_printed xs)
unfolding lines_printed
can_print short finds before [] readable grammar is = tt
can_print short finds before (x ∷ xs) readable grammar is = (
  grammar.0.event,
  can_tell x.conn x.outcomes (lines_printed xs) grammar.0.event.conn grammar.0.outcomes
      (subst AreShort (sym is.0) (short finds before (trace_line_of x) readable grammar.0.event))
      (can_print short finds (before ++ trace_line_of x ∷ []) xs (readable_more before (trace_line_of x) readable (grammar.0.event, tt)) grammar.1 is.1),
)

-- ---- the recording

-- a text is read as these events, with these settings
pub record IsReadAs (settings : Settings) (xs : List JournalEntry) (recording : List ℕ) : Type 0 where
  pub lines : List Event_line
  pub read : trace_of recording ≡ Ok (record { settings = settings; entries = lines })
  pub events : AreEvents lines xs

usual_allowed : AllAllowed usual_settings
usual_allowed = record { modulo = inl refl; window = refl; credit = refl; size = refl; t1 = refl; n2 = refl; setup = refl }

text_recorded : (plan : Plan) (o : Out (Course ModelEnd)) → text_printed plan.settings (lines_printed o.entries) ≡ recording_of plan o
unfolding printed trace_header
text_recorded plan o = ap (λ z. line_text (header_words plan.settings) ++ z) (text_lines o.entries)

pub recording_read : PrintedIsRead → OutcomesAreShort → (plan : Plan) (o : Out (Course ModelEnd)) → IsRecorded plan o → IsIsolated plan o
    → IsReadAs plan.settings o.entries (recording_of plan o)
recording_read reads short plan o h isolated =
    let lines = lines_printed o.entries in
    let is = text_recorded plan o in
    record {
      lines = entries_printed 1 lines;
      read =
          subst (λ z. trace_of z ≡ Ok (record { settings = plan.settings; entries = entries_printed 1 lines })) is
          (reads plan.settings lines (subst AllAllowed (sym h.settings) usual_allowed) (ap (λ (s : Settings). s.modulo) h.settings)
          (can_print short (key_at plan.keys) [] o.entries tt h.grammar (subst (λ s. HaveModelOutcomes s (key_at plan.keys) [] o.entries) h.settings isolated))
          (subst (λ z. length z ≤ 16777216) (sym is) h.fits));
      events = events_printed o.entries 1;
    }
