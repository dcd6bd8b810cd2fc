-- What the commands over a key file and another file do to the outside, as scripts (this profile): `replay`, `check` and `audit`.
use Rattle.std.specs.Prelude.{◌≡◌, ℕ, Bool, List, [], ◌∷◌, ◌++◌, length, Option, Some, None, Result, Ok, Err, codes}
use Rattle.er_base.specs.LineTexts.{line_text}
use Rattle.er_base.specs.declared.text_fault.TextFault.{TextFault}
use Rattle.er_base.specs.declared.text_fault.TextFault.TheVariants as text
use Rattle.er_settings.specs.Values.{Settings}
use Rattle.er_trace.specs.declared.entry.Entry.{Entry as TraceEntry}
use Rattle.er_trace.specs.declared.trace.Trace.{Trace}
use Rattle.er_trace.specs.Files.{trace_of}
use Rattle.er_trace.specs.Texts.{header_words}
use Rattle.er_tap.specs.declared.tap.Tap.{Tap}
use Rattle.er_tap.specs.declared.tap_line.TapLine.{TapLine}
use Rattle.er_tap.specs.Files.{tap_of}
use Rattle.er_end_model.specs.Steps.{Finds}
use Rattle.safety_automaton.specs.Keys.{KmacEntry, key_at}
use Rattle.key_store.specs.KeyFiles.{keys_of}
use Rattle.tap_model.specs.Lines.{TapFault, NoLinkAt, TwiceAt, fault_of_tap_lines}
use Rattle.trace_model.specs.declared.replay_fault.ReplayFault.{ReplayFault}
use Rattle.trace_model.specs.Checks.{fault_of_trace_event}
use Rattle.trace_model.specs.Printed.{entry_text, text_of_trace}
use Rattle.trace_model.specs.Recordings.{ended_part, check_verdict}
use Rattle.link_audit.specs.AuditLines.{lines_of_audit}
use Rattle.outside.specs.Scripts.{Script, Ends, Prints, Knowing, says_last}
use Rattle.er_statuses.specs.LastLines.{fault_line, why_word}
use Rattle.er_statuses.specs.FileScripts.{answers, fetches_file, behind_keys}
use Rattle.er_program.specs.declared.work.Work.{Work}
use Rattle.er_program.specs.declared.work.Work.TheVariants as work
use Rattle.er_program.specs.Answers.{replay_fault_line, verdict_answer}
use Rattle.er_program.specs.FileScripts.{prints_each}

-- ---- a replay

-- an event that is taken has its text printed, and then the rest is done; one that isn't has its fault's line printed, and that ends the run
abbrev pub prints_or_refuses : Option ReplayFault → (lines : List ℕ) → Script → Script
prints_or_refuses None lines next = Prints (λ text. text ≡ lines) next
prints_or_refuses (Some fault) lines next = says_last 3 (replay_fault_line fault)

-- events are replayed one after another behind those that were replayed before
unfoldable pub replays_events : Settings → Finds → (done entries : List TraceEntry) → Script
replays_events settings finds done [] = Ends 0
replays_events settings finds done (entry ∷ rest) =
    prints_or_refuses (fault_of_trace_event settings finds done entry) (entry_text settings finds done entry)
    (replays_events settings finds (done ++ entry ∷ []) rest)

-- the header is printed before them
abbrev pub replays_trace : Settings → Finds → List TraceEntry → Script
replays_trace settings finds entries = Prints (λ text. text ≡ line_text (header_words settings)) (replays_events settings finds [] entries)

-- a file that spells a trace is replayed with these entries of a key file; a fault of its grammar has its line printed alone. What a file says is
-- never want of memory
abbrev pub replays_read : List KmacEntry → Result Trace TextFault → Script
replays_read keys (Ok trace) = replays_trace trace.settings (key_at keys) trace.entries
replays_read keys (Err (text.At line why)) = says_last 3 (fault_line line (why_word why))
replays_read keys (Err (text.NoMemory want)) = Knowing ⊥ (Ends 7)

-- ---- a check

abbrev pub first_refusal : Option ReplayFault → Option ReplayFault → Option ReplayFault
first_refusal (Some fault) rest = Some fault
first_refusal None rest = rest

-- why the first of these events that isn't taken, behind those that were taken before, isn't
unfoldable pub first_event_fault : Settings → Finds → (done entries : List TraceEntry) → Option ReplayFault
first_event_fault settings finds done [] = None
first_event_fault settings finds done (entry ∷ rest) =
    first_refusal (fault_of_trace_event settings finds done entry) (first_event_fault settings finds (done ++ entry ∷ []) rest)

-- nothing is printed before the verdict on the file, where all events are taken, and else the line of the first that isn't
abbrev pub tells_check : (file : List ℕ) → Settings → Finds → List TraceEntry → Option ReplayFault → Script
tells_check file settings finds entries None = answers (verdict_answer (length entries) (check_verdict file (text_of_trace settings finds entries)))
tells_check file settings finds entries (Some fault) = says_last 3 (replay_fault_line fault)

abbrev pub checks_events : (file : List ℕ) → Settings → Finds → List TraceEntry → Script
checks_events file settings finds entries = tells_check file settings finds entries (first_event_fault settings finds [] entries)

-- what its ended lines are read as
abbrev pub checks_read : List KmacEntry → (file : List ℕ) → Result Trace TextFault → Script
checks_read keys file (Ok trace) = checks_events file trace.settings (key_at keys) trace.entries
checks_read keys file (Err (text.At line why)) = says_last 3 (fault_line line (why_word why))
checks_read keys file (Err (text.NoMemory want)) = Knowing ⊥ (Ends 7)

-- ---- an audit

-- each line of the audit is printed, where the lines of the tap stand in order; memory may run out behind the last one, over ends that are told and
-- not printed. Else the first line that doesn't has its line printed alone
abbrev pub audits_lines : (ends : Bool) → Finds → List TapLine → Option TapFault → Script
audits_lines ends finds lines None = prints_each (λ line. line) (lines_of_audit ends finds lines) (Knowing (Unit {0}) (Ends 0))
audits_lines ends finds lines (Some (NoLinkAt line n)) = says_last 3 (fault_line line (codes "nolink"))
audits_lines ends finds lines (Some (TwiceAt line n)) = says_last 3 (fault_line line (codes "twice"))

abbrev pub audits_read : (ends : Bool) → List KmacEntry → Result Tap TextFault → Script
audits_read ends keys (Ok tap) = audits_lines ends (key_at keys) tap.lines (fault_of_tap_lines tap.lines)
audits_read ends keys (Err (text.At line why)) = says_last 3 (fault_line line (why_word why))
audits_read ends keys (Err (text.NoMemory want)) = Knowing ⊥ (Ends 7)

-- ---- the commands

-- what is done with the octets of the other file, by the entries of the key file
abbrev pub does_work : Work → List KmacEntry → (file : List ℕ) → Script
does_work work.Replay keys file = replays_read keys (trace_of file)
does_work work.Check keys file = checks_read keys file (trace_of (ended_part file))
does_work (work.Audit ends) keys file = audits_read ends keys (tap_of file)

-- the key file is fetched, and where it is good the other file
abbrev pub works_behind_keys : Work → (keys name : List ℕ) → Script
works_behind_keys work keys name = fetches_file keys (λ file. behind_keys (keys_of file) (λ entries. fetches_file name (does_work work entries)))
