-- The events so far, before those of the lines that are left.
use Rattle.std.proofs.Common.{◌≡◌, ℕ, List, [], ◌∷◌, ◌++◌, Result, Ok, Err, refl, ap, sym, ◌∙◌, append_assoc, append-nil}
use Rattle.er_base.specs.declared.why.Why.{Why}
use Rattle.er_base.specs.declared.line_fault.LineFault.{LineFault}
use Rattle.er_base.specs.declared.line_fault.LineFault.TheVariants as line
use Rattle.er_base.specs.declared.text_fault.TextFault.{TextFault}
use Rattle.er_base.specs.declared.text_fault.TextFault.TheVariants.{At}
use Rattle.er_base.specs.Lines.{Row}
use Rattle.er_base.specs.Rows.{Refuses}
use Rattle.er_trace.specs.declared.entry.Entry.{Entry}
use Rattle.er_trace.specs.declared.event.Event.{Event}
use Rattle.er_trace.specs.declared.said.Said.TheVariants.{Happens, Tells}
use Rattle.er_trace.specs.Answers.{AnswersAsTraceSays}
use Rattle.er_trace.specs.Files.{with_entry, line_says, entries_of}
use Rattle.er_trace.specs.Readings.{trace_text_fault}
use Rattle.er_trace.specs.Texts.{IsReadableEntry, AreReadableEntries}

abbrev pub behind : List Entry → Result (List Entry) TextFault → Result (List Entry) TextFault
behind front (Err fault) = Err fault
behind front (Ok entries) = Ok (front ++ entries)

pub behind_none : (read : Result (List Entry) TextFault) → behind [] read ≡ read
behind_none (Err fault) = refl
behind_none (Ok entries) = refl

entry_more : (front : List Entry) (entry : Entry) (rest : Result (List Entry) TextFault)
    → behind front (with_entry entry rest) ≡ behind (front ++ entry ∷ []) rest
entry_more front entry (Err fault) = refl
entry_more front entry (Ok entries) = ap (λ (l : List Entry). Ok l) (sym (append_assoc front (entry ∷ []) entries))

-- one line more, which is an event
pub one_entry : (front : List Entry) (at conn : ℕ) (event : Event) (row : Row) (rows : List Row) → line_says row.words ≡ Ok (Happens at conn event)
    → behind front (entries_of (row ∷ rows))
    ≡ behind (front ++ record { line = row.number; moment = at; conn = conn; event = event } ∷ []) (entries_of rows)
unfolding entries_of
one_entry front at conn event row rows e =
    rw e (entry_more front (record { line = row.number; moment = at; conn = conn; event = event }) (entries_of rows))

-- one that is an outcome
pub one_outcome : (front : List Entry) (row : Row) (rows : List Row) → line_says row.words ≡ Ok Tells
    → behind front (entries_of (row ∷ rows)) ≡ behind front (entries_of rows)
unfolding entries_of
one_outcome front row rows e = rw e refl

-- one that is refused
one_refused : (front : List Entry) (why : Why) (row : Row) (rows : List Row) → line_says row.words ≡ Err why
    → behind front (entries_of (row ∷ rows)) ≡ Err (At row.number why)
unfolding entries_of
one_refused front why row rows e = rw e refl

pub refused_answers : (front : List Entry) (fault : LineFault) (row : Row) (rows : List Row) (read : Result (List Entry) TextFault)
    → Refuses fault (line_says row.words) → behind front (entries_of (row ∷ rows)) ≡ read → AnswersAsTraceSays (Err (trace_text_fault row.number fault)) read
refused_answers front (line.Refused why) row rows read refused all = sym all ∙ one_refused front why row rows refused
refused_answers front (line.NoMemory want) row rows read refused all = tt

-- no line is left
pub none_left : (front : List Entry) (read : Result (List Entry) TextFault) → behind front (entries_of []) ≡ read → read ≡ Ok front
unfolding entries_of
none_left front read all = sym all ∙ ap (λ (l : List Entry). Ok l) (append-nil front)

-- one event more that can be read
pub readable_more : (front : List Entry) (entry : Entry) → AreReadableEntries front → IsReadableEntry entry → AreReadableEntries (front ++ entry ∷ [])
readable_more [] entry h k = (k, tt)
readable_more (first ∷ front) entry h k = (h.0, readable_more front entry h.1 k)
