-- What a run of `replay` means by its status, from how it ended.
use Rattle.std.proofs.Common.{◌≡◌, ℕ, inl, inr, List, ◌++◌, Option, Result, Ok, Err, sym, subst, ◌∙◌, ap, arith}
use Rattle.std.proofs.lemmas.Option.{none-some}
use Rattle.er_base.specs.declared.text_fault.TextFault.{TextFault}
use Rattle.er_base.specs.declared.text_fault.TextFault.TheVariants as text
use Rattle.er_base.specs.declared.why.Why.{Why}
use Rattle.er_trace.specs.declared.trace.Trace.{Trace}
use Rattle.er_trace.specs.Files.{trace_of}
use Rattle.safety_automaton.specs.Keys.{KmacEntry, key_at}
use Rattle.key_store.specs.KeyFiles.{keys_of}
use Rattle.trace_model.specs.declared.replay_fault.ReplayFault.{ReplayFault}
use Rattle.trace_model.specs.Printed.{text_of_trace}
use Rattle.trace_model.specs.Replays.{AreTaken, HasFirstRefusedEvent}
use Rattle.link_trait.specs.Outside.{Grew, HasFile}
use Rattle.er_program.specs.Asking.{AskedNames}
use Rattle.er_program.specs.Commands.{Replay}
use Rattle.er_statuses.specs.LastLines.{fault_line, memory_line, why_word}
use Rattle.er_program.specs.Answers.{replay_fault_line, IsReplayAnswer, AllAreTaken, OneIsRefused, IsTraceAnswer}
use Rattle.er_statuses.specs.Answers.{Answer, Files}
use Rattle.er_program.specs.Runs.{SpellTrace, HasTraceStatus, HasKeyedStatus}
use Rattle.er_program.specs.FileMeans.{FileMeans}

-- ---- the trace

means_out_of_form : (keys_name name key_file file : List ℕ) (known : List KmacEntry) (line : ℕ) (why : Why) (files : Files) (p q : AskedNames) (c d f g : ℕ) (before now : Option (List ℕ)) (status : ℕ)
    → HasFile files keys_name key_file → keys_of key_file ≡ Ok known → HasFile files name file → trace_of file ≡ Err (text.At line why)
    → HasKeyedStatus HasTraceStatus keys_name name files status → status ≡ 3 → Grew before now (fault_line line (why_word why))
    → FileMeans (Replay keys_name name) files p q c d f g before now status
means_out_of_form keys_name name key_file file known line why files p q c d f g before now status keys_stand keys_are stands unspelled has is text_of_trace = record {
  known = inr (inr (inr (inl is)));
  done = λ h. absurd (omega arith);
  usage = λ h. absurd (omega arith);
  fetch = λ h. absurd (omega arith);
  refused = λ h. inl (record {
    key_file = key_file;
    keys_stand = keys_stand;
    entries = known;
    keys_spelled = keys_are;
    file = file;
    stands = stands;
    line = line;
    why = why;
    unspelled = unspelled;
    written = text_of_trace;
  });
  keys = λ h. absurd (omega arith);
  sink = λ h. absurd (omega arith);
  memory = λ h. absurd (omega arith);
  overfull = λ h. absurd (omega arith);
  unlike = λ h. absurd (omega arith);
  complete = λ good fine. inl has;
}

means_refused : (keys_name name : List ℕ) (known : List KmacEntry) (trace : Trace) (why : ReplayFault) (files : Files) (p q : AskedNames) (c d f g : ℕ) (before now : Option (List ℕ)) (status : ℕ)
    → SpellTrace keys_name name files known trace → (first : HasFirstRefusedEvent trace.settings (key_at known) trace.entries why) → HasKeyedStatus HasTraceStatus keys_name name files status
    → status ≡ 3 → Grew before now (text_of_trace trace.settings (key_at known) first.first ++ replay_fault_line why) → FileMeans (Replay keys_name name) files p q c d f g before now status
means_refused keys_name name known trace why files p q c d f g before now status spell first has is text_of_trace = record {
  known = inr (inr (inr (inl is)));
  done = λ h. absurd (omega arith);
  usage = λ h. absurd (omega arith);
  fetch = λ h. absurd (omega arith);
  refused = λ h. inr (record { entries = known; trace = trace; spell = spell; fault = why; first = first; written = text_of_trace });
  keys = λ h. absurd (omega arith);
  sink = λ h. absurd (omega arith);
  memory = λ h. absurd (omega arith);
  overfull = λ h. absurd (omega arith);
  unlike = λ h. absurd (omega arith);
  complete = λ good fine. inl has;
}

means_all : (keys_name name : List ℕ) (known : List KmacEntry) (trace : Trace) (files : Files) (p q : AskedNames) (c d f g : ℕ) (before now : Option (List ℕ)) (status : ℕ)
    → SpellTrace keys_name name files known trace → AreTaken trace.settings (key_at known) trace.entries → HasKeyedStatus HasTraceStatus keys_name name files status
    → status ≡ 0 → Grew before now (text_of_trace trace.settings (key_at known) trace.entries) → FileMeans (Replay keys_name name) files p q c d f g before now status
means_all keys_name name known trace files p q c d f g before now status spell taken has is text_of_trace = record {
  known = inl is;
  done = λ h. record { entries = known; trace = trace; spell = spell; taken = taken; written = text_of_trace };
  usage = λ h. absurd (omega arith);
  fetch = λ h. absurd (omega arith);
  refused = λ h. absurd (omega arith);
  keys = λ h. absurd (omega arith);
  sink = λ h. absurd (omega arith);
  memory = λ h. absurd (omega arith);
  overfull = λ h. absurd (omega arith);
  unlike = λ h. absurd (omega arith);
  complete = λ good fine. inl has;
}

means_events : (keys_name name : List ℕ) (known : List KmacEntry) (trace : Trace) (a : Answer) (files : Files) (p q : AskedNames) (c d f g : ℕ) (before now : Option (List ℕ)) (status : ℕ)
    → SpellTrace keys_name name files known trace → IsReplayAnswer trace.settings (key_at known) trace.entries a → HasKeyedStatus HasTraceStatus keys_name name files status
    → status ≡ a.status → Grew before now a.text → FileMeans (Replay keys_name name) files p q c d f g before now status
means_events keys_name name known trace a files p q c d f g before now status spell (AllAreTaken taken is) has stated text_of_trace =
    means_all keys_name name known trace files p q c d f g before now status spell taken has (stated ∙ ap (λ (x : Answer). x.status) is)
    (subst (λ (x : Answer). Grew before now x.text) is text_of_trace)
means_events keys_name name known trace a files p q c d f g before now status spell (OneIsRefused why first is) has stated text_of_trace =
    means_refused keys_name name known trace why files p q c d f g before now status spell first has (stated ∙ ap (λ (x : Answer). x.status) is)
    (subst (λ (x : Answer). Grew before now x.text) is text_of_trace)

pub means_trace : (keys_name name key_file file : List ℕ) (known : List KmacEntry) (read : Result Trace TextFault) (a : Answer) (files : Files) (p q : AskedNames) (c d f g : ℕ) (before now : Option (List ℕ)) (status : ℕ)
    → HasFile files keys_name key_file → keys_of key_file ≡ Ok known → HasFile files name file → trace_of file ≡ read → IsTraceAnswer known read a
    → HasKeyedStatus HasTraceStatus keys_name name files status
    → (status ≡ 7 → Grew before now memory_line → FileMeans (Replay keys_name name) files p q c d f g before now status)
    → status ≡ a.status → Grew before now a.text → FileMeans (Replay keys_name name) files p q c d f g before now status
means_trace keys_name name key_file file known (Err (text.At line why)) a files p q c d f g before now status keys_stand keys_are stands is answers has forgot stated text_of_trace =
    means_out_of_form keys_name name key_file file known line why files p q c d f g before now status keys_stand keys_are stands is has
    (stated ∙ ap (λ (x : Answer). x.status) answers) (subst (λ (x : Answer). Grew before now x.text) answers text_of_trace)
means_trace keys_name name key_file file known (Err (text.NoMemory want)) a files p q c d f g before now status keys_stand keys_are stands is answers has forgot stated text_of_trace =
    forgot (stated ∙ ap (λ (x : Answer). x.status) answers)
    (subst (λ (x : Answer). Grew before now x.text) answers text_of_trace)
means_trace keys_name name key_file file known (Ok trace) a files p q c d f g before now status keys_stand keys_are stands is answers has forgot stated text_of_trace =
    means_events keys_name name known trace a files p q c d f g before now status
    (record {
      key_file = key_file;
      keys_stand = keys_stand;
      keys_spelled = keys_are;
      file = file;
      stands = stands;
      spelled = is;
    })
    answers has stated text_of_trace

-- ---- statuses

-- events that are all taken have status 0
zero_where_taken : (known : List KmacEntry) (trace : Trace) (a : Answer) → IsReplayAnswer trace.settings (key_at known) trace.entries a
    → AreTaken trace.settings (key_at known) trace.entries → a.status ≡ 0
zero_where_taken known trace a (AllAreTaken taken is) all = ap (λ (x : Answer). x.status) is
zero_where_taken known trace a (OneIsRefused why first is) all =
    absurd (none-some why (sym (all first.first first.entry first.rest first.is) ∙ first.refused))

zero_where_read : (known : List KmacEntry) (read : Result Trace TextFault) (trace : Trace) (a : Answer) → read ≡ Ok trace → IsTraceAnswer known read a
    → AreTaken trace.settings (key_at known) trace.entries → a.status ≡ 0
zero_where_read known read trace a is answers taken =
    zero_where_taken known trace a (subst (λ (x : Result Trace TextFault). IsTraceAnswer known x a) is answers) taken

pub trace_status : (known : List KmacEntry) (name file : List ℕ) (a : Answer) (files : Files) (status : ℕ)
    → HasFile files name file → IsTraceAnswer known (trace_of file) a → status ≡ a.status → HasTraceStatus known name files status
trace_status known name file a files status stands answers stated = record {
  file = file;
  stands = stands;
  answer = a;
  answers = answers;
  is = stated;
  all_taken = λ trace is taken. stated ∙ zero_where_read known (trace_of file) trace a is answers taken;
}
