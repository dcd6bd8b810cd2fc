-- What the script of a replay, a check or an audit did, behind the octets of its file: how the run ended, and that no file was asked for.
use Rattle.std.proofs.Common.{◌≡◌, ℕ, inl, inr, Bool, List, [], ◌∷◌, ◌++◌, length, Option, Some, None, Result, Ok, Err, refl, sym, ap, subst, ◌∙◌, append_assoc, append-nil, codes}
use Rattle.er_base.specs.declared.no_memory.NoMemory.{NoMemory as Want}
use Rattle.er_base.specs.LineTexts.{line_text}
use Rattle.er_base.specs.declared.text_fault.TextFault.{TextFault}
use Rattle.er_base.specs.declared.text_fault.TextFault.TheVariants as text
use Rattle.er_settings.specs.Values.{Settings}
use Rattle.er_trace.specs.declared.entry.Entry.{Entry}
use Rattle.er_trace.specs.declared.trace.Trace.{Trace}
use Rattle.er_trace.specs.Files.{trace_of}
use Rattle.er_trace.specs.Texts.{header_words}
use Rattle.er_tap.specs.declared.tap.Tap.{Tap}
use Rattle.er_tap.specs.declared.tap_line.TapLine.{TapLine}
use Rattle.er_tap.specs.Files.{tap_of}
use Rattle.er_end_model.specs.Steps.{Finds}
use Rattle.safety_automaton.specs.Keys.{KmacEntry, key_at}
use Rattle.tap_model.specs.Lines.{TapFault, NoLinkAt, TwiceAt, fault_of_tap_lines}
use Rattle.tap_model.specs.EndTexts.{text_of_audit}
use Rattle.trace_model.specs.declared.replay_fault.ReplayFault.{ReplayFault}
use Rattle.trace_model.specs.Checks.{fault_of_trace_event}
use Rattle.trace_model.specs.Printed.{entry_text, entries_text, text_of_trace}
use Rattle.trace_model.specs.Recordings.{ended_part, check_verdict}
use Rattle.trace_model.specs.Replays.{AreTaken}
use Rattle.link_audit.specs.AuditLines.{lines_of_audit}
use Rattle.link_audit.specs.AuditTexts.{lines_joined, lines_are_text}
use Rattle.link_trait.specs.Outside.{Grew}
use Rattle.outside.specs.Acts.{Act}
use Rattle.outside.specs.Ties.{IsLeft, GrewBy, PutsInSink}
use Rattle.outside.specs.Scripts.{End, Script, Ends, Knowing, RunsScript}
use Rattle.outside.specs.SinkTexts.{nothing_left_by}
use Rattle.er_statuses.specs.Answers.{Answer}
use Rattle.er_statuses.specs.FileScripts.{answers}
use Rattle.er_statuses.specs.LastLines.{fault_line, why_word}
use Rattle.er_statuses.specs.ScriptEnds.{end_of_run}
use Rattle.er_statuses.specs.declared.status.Status.{Status}
use Rattle.er_statuses.specs.declared.stop.Stop.{Stop}
use Rattle.er_statuses.specs.declared.stop.Stop.TheVariants as stop
use Rattle.er_program.specs.Answers.{replay_fault_line, verdict_answer, lines_answer, IsReplayAnswer, AllAreTaken, OneIsRefused, AllAreJudged, OneIsTold, IsTraceAnswer, IsCheckAnswer, IsRecordingAnswer}
use Rattle.er_program.specs.AuditWriting.{IsLinesAnswer, IsTapAnswer, BeginsLines, BeginsTap}
use Rattle.er_program.specs.CheckWriting.{IsNothing}
use Rattle.er_program.specs.FileScripts.{prints_each}
use Rattle.er_program.specs.KeyedScripts.{prints_or_refuses, replays_events, replays_trace, replays_read, first_event_fault, tells_check, checks_read, audits_lines, audits_read, does_work}
use Rattle.er_program.specs.KeyedWriting.{IsOfWork, BeginsOfWork}
use Rattle.er_program.specs.ReplayWriting.{BeginsEvents, BeginsTrace, EndsOne}
use Rattle.er_program.specs.declared.work.Work.{Work}
use Rattle.er_program.specs.declared.work.Work.TheVariants as work
use Rattle.er_program.proofs.Checking.{First, first_of_all}
use Rattle.er_program.proofs.FileActs.{Sinks, is_spent, gives_answer, gives_said}
use Rattle.er_program.proofs.Got.{Got, Begun, got_nothing, got_end, got_print, got_says, ends_got, IsQuiet}
use Rattle.er_program.proofs.KeyedRuns.{ends_gives, ends_other}
use Rattle.er_program.proofs.TraceTexts.{taken_none, taken_more, printed_more, begins}

-- ---- an answer alone

module _ (Is : Answer → Type 0) (IsBegun : List ℕ → Type 0) (a b : Option (List ℕ)) (f g : ℕ) (acts : List Act) (r : Result Status Stop) where
  -- one answer was given
  ends_said : (answer : Answer) → Is answer → IsBegun [] → RunsScript (answers answer) acts (end_of_run r) → Sinks a b f g acts → EndsOne Is IsBegun a b f g r
  ends_said answer is none runs sinks = ends_gives Is IsBegun answer a b f g r is none (gives_answer answer a b f g r (gives_said answer a b f g acts r runs sinks))

  -- what a file says is never want of memory
  ends_unsaid : IsBegun [] → RunsScript (Knowing ⊥ (Ends 7)) acts (end_of_run r) → Sinks a b f g acts → EndsOne Is IsBegun a b f g r
  unfolding RunsScript
  ends_unsaid none (inl p) sinks = absurd p.0
  ends_unsaid none (inr p) sinks =
      let spent : (want : Want) × (r ≡ Err (stop.NoMemory want)) = is_spent r p.1 in
      let nothing : Grew a b [] = nothing_left_by a b (subst (λ (ys : List Act). GrewBy PutsInSink a b ys) p.0 sinks.0) in
      subst (λ (x : Result Status Stop). EndsOne Is IsBegun a b f g x) (sym spent.1) (record { text = []; begun = none; written = nothing; later = sinks.1.later })

-- ---- a replay

module _ (s : Settings) (f : Finds) (entries : List Entry) where
  abbrev GotReplay : (front : List ℕ) → End → List Act → (all : List ℕ) → Type 0
  GotReplay front end acts all = Got (IsReplayAnswer s f entries) (BeginsEvents s f entries) front end acts all

  -- events that are taken have printed this
  begun_events : (done rest : List Entry) → entries ≡ done ++ rest → AreTaken s f done → BeginsEvents s f entries (text_of_trace s f done)
  begun_events done rest is taken = record { first = done; others = rest; are_first = is; taken = taken; rest = []; is = append-nil (text_of_trace s f done) }

  -- an answer goes on from it
  begun_answer : (done rest : List Entry) → entries ≡ done ++ rest → AreTaken s f done → Begun (IsReplayAnswer s f entries) (BeginsEvents s f entries) (text_of_trace s f done)
  begun_answer done rest is taken =
      let it = begins s f done rest taken in
      record { answer = it.answer; is = subst (λ (es : List Entry). IsReplayAnswer s f es it.answer) (sym is) it.is; rest = it.rest; text_is = it.text_is }

  -- one event more
  text_more : (done : List Entry) (e : Entry) → text_of_trace s f done ++ entry_text s f done e ≡ text_of_trace s f (done ++ e ∷ [])
  unfolding entries_text
  text_more done e = sym (printed_more s f done (e ∷ []) ∙ ap (λ (t : List ℕ). text_of_trace s f done ++ t) (append-nil (entry_text s f done e)))

  module _ (done : List Entry) (e : Entry) (rest : List Entry) (is : entries ≡ done ++ e ∷ rest) (taken : AreTaken s f done) where
    got_event : (found : Option ReplayFault) → fault_of_trace_event s f done e ≡ found → (next : Script)
        → (AreTaken s f (done ++ e ∷ []) → (acts : List Act) (end : End) (all : List ℕ) → RunsScript next acts end → IsLeft PutsInSink acts all
        → GotReplay (text_of_trace s f (done ++ e ∷ [])) end acts all)
        → (acts : List Act) (end : End) (all : List ℕ) → RunsScript (prints_or_refuses found (entry_text s f done e) next) acts end → IsLeft PutsInSink acts all
        → GotReplay (text_of_trace s f done) end acts all
    got_event (Some fault) refused next follows acts end all runs left =
        got_says (IsReplayAnswer s f entries) (BeginsEvents s f entries) (text_of_trace s f done) (replay_fault_line fault) 3 (begun_events done (e ∷ rest) is taken)
        (OneIsRefused fault (record { first = done; entry = e; rest = rest; is = is; taken = taken; refused = refused }) refl) acts end all runs left
    got_event None none next follows acts end all runs left =
        let more : AreTaken s f (done ++ e ∷ []) = taken_more s f done e taken none in
        let split : entries ≡ (done ++ e ∷ []) ++ rest = is ∙ sym (append_assoc done (e ∷ []) rest) in
        got_print (IsReplayAnswer s f entries) (BeginsEvents s f entries) (text_of_trace s f done) (entry_text s f done e) next (begun_events done (e ∷ rest) is taken)
        (subst (λ (t : List ℕ). Begun (IsReplayAnswer s f entries) (BeginsEvents s f entries) t) (sym (text_more done e)) (begun_answer (done ++ e ∷ []) rest split more))
        (λ more_acts more_end all_more run_on left_on. subst (λ (t : List ℕ). GotReplay t more_end more_acts all_more) (sym (text_more done e))
        (follows more more_acts more_end all_more run_on left_on)) acts end all runs left

  got_events : (done rest : List Entry) → entries ≡ done ++ rest → AreTaken s f done → (acts : List Act) (end : End) (all : List ℕ)
      → RunsScript (replays_events s f done rest) acts end → IsLeft PutsInSink acts all → GotReplay (text_of_trace s f done) end acts all
  unfolding replays_events
  got_events done [] is taken acts end all runs left =
      let whole : entries ≡ done = is ∙ append-nil done in
      got_end (IsReplayAnswer s f entries) (BeginsEvents s f entries) (text_of_trace s f done) 0 acts end all
      (subst (λ (es : List Entry). IsReplayAnswer s f es (record { status = 0; text = text_of_trace s f done })) (sym whole) (AllAreTaken taken refl)) runs left
  got_events done (e ∷ rest) is taken acts end all runs left =
      got_event done e rest is taken (fault_of_trace_event s f done e) refl (replays_events s f (done ++ e ∷ []) rest)
      (λ more. got_events (done ++ e ∷ []) rest (is ∙ sym (append_assoc done (e ∷ []) rest)) more) acts end all runs left

  -- the header, and all events
  got_trace : (acts : List Act) (end : End) (all : List ℕ) → RunsScript (replays_trace s f entries) acts end → IsLeft PutsInSink acts all → GotReplay [] end acts all
  unfolding entries_text
  got_trace acts end all runs left =
      let header : List ℕ = line_text (header_words s) in
      let whole : header ≡ text_of_trace s f [] = sym (append-nil header) in
      got_print (IsReplayAnswer s f entries) (BeginsEvents s f entries) [] header (replays_events s f [] entries)
      (record { first = []; others = entries; are_first = refl; taken = taken_none s f; rest = text_of_trace s f []; is = refl })
      (subst (λ (t : List ℕ). Begun (IsReplayAnswer s f entries) (BeginsEvents s f entries) t) (sym whole) (begun_answer [] entries refl (taken_none s f)))
      (λ more_acts more_end more run_on left_on. subst (λ (t : List ℕ). GotReplay t more_end more_acts more) (sym whole)
      (got_events [] entries refl (taken_none s f) more_acts more_end more run_on left_on)) acts end all runs left

  -- it asks for no file
  quiet_event : (found : Option ReplayFault) (lines : List ℕ) (next : Script) → IsQuiet next → IsQuiet (prints_or_refuses found lines next)
  quiet_event None lines next is = is
  quiet_event (Some fault) lines next is = tt

  quiet_events : (done rest : List Entry) → IsQuiet (replays_events s f done rest)
  unfolding replays_events
  quiet_events done [] = tt
  quiet_events done (e ∷ rest) =
      quiet_event (fault_of_trace_event s f done e) (entry_text s f done e) (replays_events s f (done ++ e ∷ []) rest) (quiet_events (done ++ e ∷ []) rest)

ends_replay : (known : List KmacEntry) (read : Result Trace TextFault) (a b : Option (List ℕ)) (f g : ℕ) (acts : List Act) (r : Result Status Stop)
    → RunsScript (replays_read known read) acts (end_of_run r) → Sinks a b f g acts → EndsOne (IsTraceAnswer known read) (BeginsTrace known read) a b f g r
ends_replay known (Ok trace) a b f g acts r runs sinks =
    ends_other (IsReplayAnswer trace.settings (key_at known) trace.entries) (IsTraceAnswer known (Ok trace))
    (BeginsEvents trace.settings (key_at known) trace.entries) (BeginsTrace known (Ok trace)) a b f g r (λ x is. is) (λ t is. inr is)
    (ends_got (IsReplayAnswer trace.settings (key_at known) trace.entries) (BeginsEvents trace.settings (key_at known) trace.entries) a b f g acts r sinks
    (got_trace trace.settings (key_at known) trace.entries acts (end_of_run r) sinks.0.more runs sinks.0.left))
ends_replay known (Err (text.At line why)) a b f g acts r runs sinks =
    ends_said (IsTraceAnswer known (Err (text.At line why))) (BeginsTrace known (Err (text.At line why))) a b f g acts r
    (record { status = 3; text = fault_line line (why_word why) }) refl (inl refl) runs sinks
ends_replay known (Err (text.NoMemory want)) a b f g acts r runs sinks =
    ends_unsaid (IsTraceAnswer known (Err (text.NoMemory want))) (BeginsTrace known (Err (text.NoMemory want))) a b f g acts r (inl refl) runs sinks

quiet_replay : (known : List KmacEntry) (read : Result Trace TextFault) → IsQuiet (replays_read known read)
quiet_replay known (Ok trace) = quiet_events trace.settings (key_at known) trace.entries [] trace.entries
quiet_replay known (Err (text.At line why)) = tt
quiet_replay known (Err (text.NoMemory want)) = tt

-- ---- a check

module _ (file : List ℕ) (s : Settings) (finds : Finds) (entries : List Entry) (a b : Option (List ℕ)) (f g : ℕ) (acts : List Act) (r : Result Status Stop) where
  ends_told : (found : Option ReplayFault) → First s finds entries found → RunsScript (tells_check file s finds entries found) acts (end_of_run r) → Sinks a b f g acts
      → EndsOne (IsCheckAnswer s finds entries file) IsNothing a b f g r
  ends_told None taken runs sinks =
      ends_said (IsCheckAnswer s finds entries file) IsNothing a b f g acts r (verdict_answer (length entries) (check_verdict file (text_of_trace s finds entries)))
      (AllAreJudged taken refl) refl runs sinks
  ends_told (Some fault) first runs sinks =
      ends_said (IsCheckAnswer s finds entries file) IsNothing a b f g acts r (record { status = 3; text = replay_fault_line fault }) (OneIsTold fault first refl) refl runs sinks

ends_check : (known : List KmacEntry) (file : List ℕ) (read : Result Trace TextFault) (a b : Option (List ℕ)) (f g : ℕ) (acts : List Act) (r : Result Status Stop)
    → RunsScript (checks_read known file read) acts (end_of_run r) → Sinks a b f g acts → EndsOne (IsRecordingAnswer known file read) IsNothing a b f g r
ends_check known file (Ok trace) a b f g acts r runs sinks =
    ends_other (IsCheckAnswer trace.settings (key_at known) trace.entries file) (IsRecordingAnswer known file (Ok trace)) IsNothing IsNothing a b f g r (λ x is. is) (λ t is. is)
    (ends_told file trace.settings (key_at known) trace.entries a b f g acts r (first_event_fault trace.settings (key_at known) [] trace.entries)
    (first_of_all trace.settings (key_at known) trace.entries) runs sinks)
ends_check known file (Err (text.At line why)) a b f g acts r runs sinks =
    ends_said (IsRecordingAnswer known file (Err (text.At line why))) IsNothing a b f g acts r (record { status = 3; text = fault_line line (why_word why) }) refl refl runs sinks
ends_check known file (Err (text.NoMemory want)) a b f g acts r runs sinks =
    ends_unsaid (IsRecordingAnswer known file (Err (text.NoMemory want))) IsNothing a b f g acts r refl runs sinks

quiet_telling : (file : List ℕ) (s : Settings) (f : Finds) (entries : List Entry) (found : Option ReplayFault) → IsQuiet (tells_check file s f entries found)
quiet_telling file s f entries None = tt
quiet_telling file s f entries (Some fault) = tt

quiet_check : (known : List KmacEntry) (file : List ℕ) (read : Result Trace TextFault) → IsQuiet (checks_read known file read)
quiet_check known file (Ok trace) = quiet_telling file trace.settings (key_at known) trace.entries (first_event_fault trace.settings (key_at known) [] trace.entries)
quiet_check known file (Err (text.At line why)) = tt
quiet_check known file (Err (text.NoMemory want)) = tt

-- ---- an audit

module _ (ends : Bool) (f : Finds) (lines : List TapLine) (none : fault_of_tap_lines lines ≡ None) where
  abbrev IsAudit : Answer → Type 0
  IsAudit a = IsLinesAnswer ends f lines a

  abbrev IsAuditBegun : List ℕ → Type 0
  IsAuditBegun t = BeginsLines ends f lines t

  whole_audit : IsAudit (record { status = 0; text = text_of_audit ends f lines })
  whole_audit = sym (ap (λ (fault : Option TapFault). lines_answer ends f lines fault) none)

  begun_audit : (front rest : List ℕ) → front ++ rest ≡ text_of_audit ends f lines → IsAuditBegun front
  begun_audit front rest is = inr (record { in_order = none; rest = rest; is = is })

  got_lines : (front : List ℕ) (rest : List (List ℕ)) → front ++ lines_joined rest ≡ text_of_audit ends f lines → (acts : List Act) (end : End) (all : List ℕ)
      → RunsScript (prints_each (λ line. line) rest (Knowing (Unit {0}) (Ends 0))) acts end → IsLeft PutsInSink acts all → Got IsAudit IsAuditBegun front end acts all
  unfolding prints_each RunsScript
  got_lines front [] is acts end all (inl p) left =
      got_end IsAudit IsAuditBegun front 0 acts end all
      (subst (λ (t : List ℕ). IsAudit (record { status = 0; text = t })) (sym (sym (append-nil front) ∙ is)) whole_audit) p.1 left
  got_lines front [] is acts end all (inr p) left = got_nothing IsAudit IsAuditBegun front end acts all (begun_audit front [] is) p.1 p.0 left
  got_lines front (line ∷ rest) is acts end all runs left =
      let further : (front ++ line) ++ lines_joined rest ≡ text_of_audit ends f lines = append_assoc front line (lines_joined rest) ∙ is in
      got_print IsAudit IsAuditBegun front line (prints_each (λ l. l) rest (Knowing (Unit {0}) (Ends 0))) (begun_audit front (line ++ lines_joined rest) is)
      (record { answer = record { status = 0; text = text_of_audit ends f lines }; is = whole_audit; rest = lines_joined rest; text_is = sym further })
      (λ more_acts more_end more run_on left_on. got_lines (front ++ line) rest further more_acts more_end more run_on left_on) acts end all runs left

module _ (ends : Bool) (finds : Finds) (lines : List TapLine) (a b : Option (List ℕ)) (f g : ℕ) (acts : List Act) (r : Result Status Stop) where
  ends_lines : (found : Option TapFault) → fault_of_tap_lines lines ≡ found → RunsScript (audits_lines ends finds lines found) acts (end_of_run r) → Sinks a b f g acts
      → EndsOne (IsLinesAnswer ends finds lines) (BeginsLines ends finds lines) a b f g r
  ends_lines None is runs sinks =
      ends_got (IsLinesAnswer ends finds lines) (BeginsLines ends finds lines) a b f g acts r sinks
      (got_lines ends finds lines is [] (lines_of_audit ends finds lines) (lines_are_text ends finds lines) acts (end_of_run r) sinks.0.more runs sinks.0.left)
  ends_lines (Some (NoLinkAt line n)) is runs sinks =
      ends_said (IsLinesAnswer ends finds lines) (BeginsLines ends finds lines) a b f g acts r (record { status = 3; text = fault_line line (codes "nolink") })
      (sym (ap (λ (fault : Option TapFault). lines_answer ends finds lines fault) is)) (inl refl) runs sinks
  ends_lines (Some (TwiceAt line n)) is runs sinks =
      ends_said (IsLinesAnswer ends finds lines) (BeginsLines ends finds lines) a b f g acts r (record { status = 3; text = fault_line line (codes "twice") })
      (sym (ap (λ (fault : Option TapFault). lines_answer ends finds lines fault) is)) (inl refl) runs sinks

ends_audit : (ends : Bool) (known : List KmacEntry) (read : Result Tap TextFault) (a b : Option (List ℕ)) (f g : ℕ) (acts : List Act) (r : Result Status Stop)
    → RunsScript (audits_read ends known read) acts (end_of_run r) → Sinks a b f g acts → EndsOne (IsTapAnswer ends known read) (BeginsTap ends known read) a b f g r
ends_audit ends known (Ok tap) a b f g acts r runs sinks =
    ends_other (IsLinesAnswer ends (key_at known) tap.lines) (IsTapAnswer ends known (Ok tap)) (BeginsLines ends (key_at known) tap.lines) (BeginsTap ends known (Ok tap)) a b f g r
    (λ x is. is) (λ t is. is) (ends_lines ends (key_at known) tap.lines a b f g acts r (fault_of_tap_lines tap.lines) refl runs sinks)
ends_audit ends known (Err (text.At line why)) a b f g acts r runs sinks =
    ends_said (IsTapAnswer ends known (Err (text.At line why))) (BeginsTap ends known (Err (text.At line why))) a b f g acts r
    (record { status = 3; text = fault_line line (why_word why) }) refl (inl refl) runs sinks
ends_audit ends known (Err (text.NoMemory want)) a b f g acts r runs sinks =
    ends_unsaid (IsTapAnswer ends known (Err (text.NoMemory want))) (BeginsTap ends known (Err (text.NoMemory want))) a b f g acts r (inl refl) runs sinks

quiet_lines : (lines : List (List ℕ)) → IsQuiet (prints_each (λ line. line) lines (Knowing (Unit {0}) (Ends 0)))
unfolding prints_each
quiet_lines [] = tt
quiet_lines (line ∷ lines) = quiet_lines lines

quiet_auditing : (ends : Bool) (finds : Finds) (lines : List TapLine) (found : Option TapFault) → IsQuiet (audits_lines ends finds lines found)
quiet_auditing ends finds lines None = quiet_lines (lines_of_audit ends finds lines)
quiet_auditing ends finds lines (Some (NoLinkAt line n)) = tt
quiet_auditing ends finds lines (Some (TwiceAt line n)) = tt

quiet_audit : (ends : Bool) (known : List KmacEntry) (read : Result Tap TextFault) → IsQuiet (audits_read ends known read)
quiet_audit ends known (Ok tap) = quiet_auditing ends (key_at known) tap.lines (fault_of_tap_lines tap.lines)
quiet_audit ends known (Err (text.At line why)) = tt
quiet_audit ends known (Err (text.NoMemory want)) = tt

-- ---- by what is done

pub work_ends : (w : Work) (known : List KmacEntry) (file : List ℕ) (a b : Option (List ℕ)) (f g : ℕ) (acts : List Act) (r : Result Status Stop)
    → RunsScript (does_work w known file) acts (end_of_run r) → Sinks a b f g acts → EndsOne (IsOfWork w known file) (BeginsOfWork w known file) a b f g r
work_ends work.Replay known file a b f g acts r runs sinks = ends_replay known (trace_of file) a b f g acts r runs sinks
work_ends work.Check known file a b f g acts r runs sinks = ends_check known file (trace_of (ended_part file)) a b f g acts r runs sinks
work_ends (work.Audit ends) known file a b f g acts r runs sinks = ends_audit ends known (tap_of file) a b f g acts r runs sinks

pub work_is_quiet : (w : Work) (known : List KmacEntry) (file : List ℕ) → IsQuiet (does_work w known file)
work_is_quiet work.Replay known file = quiet_replay known (trace_of file)
work_is_quiet work.Check known file = quiet_check known file (trace_of (ended_part file))
work_is_quiet (work.Audit ends) known file = quiet_audit ends known (tap_of file)
