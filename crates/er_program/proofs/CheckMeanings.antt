-- What a run of `check` means by its status, from how it ended.
use Rattle.std.proofs.Common.{◌≡◌, ℕ, inl, inr, List, length, Option, Result, Ok, Err, refl, subst, ◌∙◌, ap, arith}
use Rattle.er_base.specs.declared.text_fault.TextFault.{TextFault}
use Rattle.er_base.specs.declared.text_fault.TextFault.TheVariants as text
use Rattle.er_base.specs.declared.why.Why.{Why}
use Rattle.er_trace.specs.declared.trace.Trace.{Trace}
use Rattle.er_trace.specs.Files.{trace_of}
use Rattle.safety_automaton.specs.Keys.{KmacEntry, key_at}
use Rattle.key_store.specs.KeyFiles.{keys_of}
use Rattle.link_trait.specs.Outside.{Grew, HasFile}
use Rattle.trace_model.specs.declared.check_verdict.CheckVerdict.{CheckVerdict}
use Rattle.trace_model.specs.declared.check_verdict.CheckVerdict.TheVariants as verdict
use Rattle.trace_model.specs.declared.replay_fault.ReplayFault.{ReplayFault}
use Rattle.trace_model.specs.Printed.{text_of_trace}
use Rattle.trace_model.specs.Recordings.{ended_part, check_verdict}
use Rattle.trace_model.specs.Replays.{HasFirstRefusedEvent}
use Rattle.er_statuses.specs.Answers.{Answer, Files}
use Rattle.er_statuses.specs.LastLines.{fault_line, memory_line, why_word}
use Rattle.er_program.specs.Answers.{replay_fault_line, checked_line, verdict_answer, IsCheckAnswer, AllAreJudged, OneIsTold, IsRecordingAnswer}
use Rattle.er_program.specs.Asking.{AskedNames}
use Rattle.er_program.specs.CheckRuns.{SpellRecording, IsJudgedRecording, HasRecordingStatus}
use Rattle.er_program.specs.Commands.{Check}
use Rattle.er_program.specs.FileMeans.{FileMeans}
use Rattle.er_program.specs.Runs.{HasKeyedStatus}

module _ (keys_name name : List ℕ) (files : Files) (p q : AskedNames) (c d f g : ℕ) (before now : Option (List ℕ)) (status : ℕ)
    (has : HasKeyedStatus HasRecordingStatus keys_name name files status) where
  abbrev Means : Type 0
  Means = FileMeans (Check keys_name name) files p q c d f g before now status

  out_of_form : (key_file file : List ℕ) (known : List KmacEntry) (line : ℕ) (why : Why) → HasFile files keys_name key_file → keys_of key_file ≡ Ok known
      → HasFile files name file → trace_of (ended_part file) ≡ Err (text.At line why) → status ≡ 3 → Grew before now (fault_line line (why_word why)) → Means
  out_of_form key_file file known line why keys_stand keys_are stands unspelled is printed = record {
    known = inr (inr (inr (inl is)));
    done = λ h. absurd (omega arith);
    usage = λ h. absurd (omega arith);
    fetch = λ h. absurd (omega arith);
    refused = λ h. inl (record {
      key_file = key_file;
      keys_stand = keys_stand;
      entries = known;
      keys_spelled = keys_are;
      file = file;
      stands = stands;
      line = line;
      why = why;
      unspelled = unspelled;
      written = printed;
    });
    keys = λ h. absurd (omega arith);
    sink = λ h. absurd (omega arith);
    memory = λ h. absurd (omega arith);
    overfull = λ h. absurd (omega arith);
    unlike = λ h. absurd (omega arith);
    complete = λ good fine. inl has;
  }

  module _ (known : List KmacEntry) (file : List ℕ) (trace : Trace) (spell : SpellRecording keys_name name files known file trace) where
    refused : (why : ReplayFault) → HasFirstRefusedEvent trace.settings (key_at known) trace.entries why → status ≡ 3 → Grew before now (replay_fault_line why) → Means
    refused why first is printed = record {
      known = inr (inr (inr (inl is)));
      done = λ h. absurd (omega arith);
      usage = λ h. absurd (omega arith);
      fetch = λ h. absurd (omega arith);
      refused = λ h. inr (record { entries = known; file = file; trace = trace; spell = spell; fault = why; first = first; written = printed });
      keys = λ h. absurd (omega arith);
      sink = λ h. absurd (omega arith);
      memory = λ h. absurd (omega arith);
      overfull = λ h. absurd (omega arith);
      unlike = λ h. absurd (omega arith);
      complete = λ good fine. inl has;
    }

    same : (outcomes : ℕ) → IsJudgedRecording keys_name name files trace (verdict.Same outcomes) → status ≡ 0
        → Grew before now (checked_line (length trace.entries) outcomes) → Means
    same outcomes judged is printed = record {
      known = inl is;
      done = λ h. record { trace = trace; outcomes = outcomes; judged = judged; written = printed };
      usage = λ h. absurd (omega arith);
      fetch = λ h. absurd (omega arith);
      refused = λ h. absurd (omega arith);
      keys = λ h. absurd (omega arith);
      sink = λ h. absurd (omega arith);
      memory = λ h. absurd (omega arith);
      overfull = λ h. absurd (omega arith);
      unlike = λ h. absurd (omega arith);
      complete = λ good fine. inl has;
    }

    different : (v : CheckVerdict) → IsJudgedRecording keys_name name files trace v → ((outcomes : ℕ) → v ≡ verdict.Same outcomes → ⊥) → status ≡ 9
        → Grew before now (verdict_answer (length trace.entries) v).text → Means
    different v judged other is printed = record {
      known = inr (inr (inr (inr (inr (inr (inr (inr is)))))));
      done = λ h. absurd (omega arith);
      usage = λ h. absurd (omega arith);
      fetch = λ h. absurd (omega arith);
      refused = λ h. absurd (omega arith);
      keys = λ h. absurd (omega arith);
      sink = λ h. absurd (omega arith);
      memory = λ h. absurd (omega arith);
      overfull = λ h. absurd (omega arith);
      unlike = λ h. record { trace = trace; verdict = v; judged = judged; other = other; written = printed };
      complete = λ good fine. inl has;
    }

    by_verdict : (v : CheckVerdict) → IsJudgedRecording keys_name name files trace v → status ≡ (verdict_answer (length trace.entries) v).status
        → Grew before now (verdict_answer (length trace.entries) v).text → Means
    by_verdict (verdict.Same outcomes) judged is printed = same outcomes judged is printed
    by_verdict (verdict.Differs line) judged is printed = different (verdict.Differs line) judged (λ outcomes e. absurd cc) is printed
    by_verdict (verdict.Cut line) judged is printed = different (verdict.Cut line) judged (λ outcomes e. absurd cc) is printed
    by_verdict (verdict.Missing line) judged is printed = different (verdict.Missing line) judged (λ outcomes e. absurd cc) is printed

    events : (a : Answer) → IsCheckAnswer trace.settings (key_at known) trace.entries file a → status ≡ a.status → Grew before now a.text → Means
    events a (AllAreJudged taken is) stated printed =
        by_verdict (check_verdict file (text_of_trace trace.settings (key_at known) trace.entries))
        (record { entries = known; file = file; spell = spell; taken = taken; is = refl })
        (stated ∙ ap (λ (x : Answer). x.status) is) (subst (λ (x : Answer). Grew before now x.text) is printed)
    events a (OneIsTold why first is) stated printed =
        refused why first (stated ∙ ap (λ (x : Answer). x.status) is) (subst (λ (x : Answer). Grew before now x.text) is printed)

pub means_recording : (keys_name name key_file file : List ℕ) (known : List KmacEntry) (read : Result Trace TextFault) (a : Answer) (files : Files) (p q : AskedNames) (c d f g : ℕ) (before now : Option (List ℕ)) (status : ℕ)
    → HasFile files keys_name key_file → keys_of key_file ≡ Ok known → HasFile files name file → trace_of (ended_part file) ≡ read → IsRecordingAnswer known file read a
    → HasKeyedStatus HasRecordingStatus keys_name name files status
    → (status ≡ 7 → Grew before now memory_line → FileMeans (Check keys_name name) files p q c d f g before now status)
    → status ≡ a.status → Grew before now a.text → FileMeans (Check keys_name name) files p q c d f g before now status
means_recording keys_name name key_file file known (Err (text.At line why)) a files p q c d f g before now status keys_stand keys_are stands is answers has forgot stated printed =
    out_of_form keys_name name files p q c d f g before now status has key_file file known line why keys_stand keys_are stands is
    (stated ∙ ap (λ (x : Answer). x.status) answers) (subst (λ (x : Answer). Grew before now x.text) answers printed)
means_recording keys_name name key_file file known (Err (text.NoMemory want)) a files p q c d f g before now status keys_stand keys_are stands is answers has forgot stated printed =
    forgot (stated ∙ ap (λ (x : Answer). x.status) answers) (subst (λ (x : Answer). Grew before now x.text) answers printed)
means_recording keys_name name key_file file known (Ok trace) a files p q c d f g before now status keys_stand keys_are stands is answers has forgot stated printed =
    events keys_name name files p q c d f g before now status has known file trace
    (record { key_file = key_file; keys_stand = keys_stand; keys_spelled = keys_are; stands = stands; spelled = is }) a answers stated printed
