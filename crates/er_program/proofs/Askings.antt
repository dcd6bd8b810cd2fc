-- Which names were asked for, by how the parts of a run end.
use Rattle.std.proofs.Common.{◌≡◌, ◌⊎◌, inl, inr, ℕ, Bool, List, [], ◌∷◌, length, Option, Some, None, Result, Ok, Err, IfOk, refl, sym, subst, ap, arith}
use Rattle.er_base.specs.declared.text_fault.TextFault.{TextFault}
use Rattle.er_base.specs.declared.text_fault.TextFault.TheVariants as text
use Rattle.er_trace.specs.declared.trace.Trace.{Trace}
use Rattle.er_trace.specs.Files.{trace_of}
use Rattle.trace_model.specs.declared.check_verdict.CheckVerdict.{CheckVerdict}
use Rattle.trace_model.specs.declared.check_verdict.CheckVerdict.TheVariants as verdict
use Rattle.trace_model.specs.Printed.{text_of_trace}
use Rattle.trace_model.specs.Recordings.{ended_part, check_verdict}
use Rattle.er_tap.specs.Files.{tap_of}
use Rattle.er_tap.specs.declared.tap.Tap.{Tap}
use Rattle.er_tap.specs.declared.tap_line.TapLine.{TapLine}
use Rattle.tap_model.specs.Lines.{TapFault, NoLinkAt, TwiceAt, fault_of_tap_lines}
use Rattle.safety_automaton.specs.Keys.{KmacEntry, key_at}
use Rattle.link_trait.specs.Outside.{Grew}
use Rattle.er_program.specs.Asking.{AskedNames, AsksLast, AsksKeys, AsksBoth, Asks}
use Rattle.er_statuses.specs.Answers.{Answer}
use Rattle.er_program.specs.Answers.{AllAreTaken, OneIsRefused, IsTraceAnswer, AllAreJudged, OneIsTold, verdict_answer, IsRecordingAnswer, lines_answer, tap_answer}
use Rattle.er_program.specs.declared.work.Work.{Work}
use Rattle.er_program.specs.declared.work.Work.TheVariants as work
use Rattle.er_program.specs.CommandViews.{command_of_work}
use Rattle.er_program.specs.KeyedWriting.{IsOfWork}
use Rattle.er_program.specs.ReplayWriting.{EndsOne}
use Rattle.er_statuses.specs.Writing.{EndsUnfetched}
use Rattle.er_statuses.specs.declared.status.Status.{Status}
use Rattle.er_statuses.specs.declared.stop.Stop.{Stop}

-- ---- the file behind the key file

-- a status that tells neither a file that wasn't fetched nor a key file that is refused
abbrev IsBehind : ℕ → Type 0
IsBehind status = (status ≡ 0) ⊎ (status ≡ 3) ⊎ (status ≡ 7) ⊎ (status ≡ 9)

trace_behind : (known : List KmacEntry) (read : Result Trace TextFault) (a : Answer) → IsTraceAnswer known read a → IsBehind a.status
trace_behind known (Err (text.At line why)) a is = inr (inl (ap (λ (x : Answer). x.status) is))
trace_behind known (Err (text.NoMemory want)) a is = inr (inr (inl (ap (λ (x : Answer). x.status) is)))
trace_behind known (Ok trace) a (AllAreTaken taken is) = inl (ap (λ (x : Answer). x.status) is)
trace_behind known (Ok trace) a (OneIsRefused why first is) = inr (inl (ap (λ (x : Answer). x.status) is))

verdict_behind : (events : ℕ) (v : CheckVerdict) → IsBehind (verdict_answer events v).status
verdict_behind events (verdict.Same outcomes) = inl refl
verdict_behind events (verdict.Differs line) = inr (inr (inr refl))
verdict_behind events (verdict.Cut line) = inr (inr (inr refl))
verdict_behind events (verdict.Missing line) = inr (inr (inr refl))

judged_behind : (events : ℕ) (v : CheckVerdict) (a : Answer) → a ≡ verdict_answer events v → IsBehind a.status
judged_behind events v a is = subst (λ (x : Answer). IsBehind x.status) (sym is) (verdict_behind events v)

recording_behind : (known : List KmacEntry) (file : List ℕ) (read : Result Trace TextFault) (a : Answer) → IsRecordingAnswer known file read a → IsBehind a.status
recording_behind known file (Err (text.At line why)) a is = inr (inl (ap (λ (x : Answer). x.status) is))
recording_behind known file (Err (text.NoMemory want)) a is = inr (inr (inl (ap (λ (x : Answer). x.status) is)))
recording_behind known file (Ok trace) a (AllAreJudged taken is) =
    judged_behind (length trace.entries) (check_verdict file (text_of_trace trace.settings (key_at known) trace.entries)) a is
recording_behind known file (Ok trace) a (OneIsTold why first is) = inr (inl (ap (λ (x : Answer). x.status) is))

lines_behind : (ends : Bool) (known : List KmacEntry) (lines : List TapLine) (first : Option TapFault) → IsBehind (lines_answer ends (key_at known) lines first).status
lines_behind ends known lines None = inl refl
lines_behind ends known lines (Some (NoLinkAt line n)) = inr (inl refl)
lines_behind ends known lines (Some (TwiceAt line n)) = inr (inl refl)

tap_behind : (ends : Bool) (known : List KmacEntry) (read : Result Tap TextFault) → IsBehind (tap_answer ends known read).status
tap_behind ends known (Err (text.At line why)) = inr (inl refl)
tap_behind ends known (Err (text.NoMemory want)) = inr (inr (inl refl))
tap_behind ends known (Ok tap) = lines_behind ends known tap.lines (fault_of_tap_lines tap.lines)

status_behind : (w : Work) (known : List KmacEntry) (file : List ℕ) (a : Answer) → IsOfWork w known file a → IsBehind a.status
status_behind work.Replay known file a is = trace_behind known (trace_of file) a is
status_behind work.Check known file a is = recording_behind known file (trace_of (ended_part file)) a is
status_behind (work.Audit ends) known file a is = subst (λ (x : Answer). IsBehind x.status) (sym is) (tap_behind ends known (tap_of file))

last_behind : (name : List ℕ) (status answered : ℕ) (before now : Option (List ℕ)) → status ≡ answered → IsBehind answered → AsksLast name status before now
last_behind name status answered before now is behind =
    elim behind [
      | inl all ↦ (λ h. omega (arith), λ h. absurd (omega arith))
      | inr other ↦
          elim other [
            | inl refused ↦ (λ h. omega (arith), λ h. absurd (omega arith))
            | inr last ↦
                elim last [
                  | inl forgot ↦ (λ h. omega (arith), λ h. absurd (omega arith))
                  | inr unlike ↦ (λ h. omega (arith), λ h. absurd (omega arith))
                ]
          ]
    ]

-- it was read
pub asks_read : (w : Work) (known : List KmacEntry) (file : List ℕ) (IsBegun : List ℕ → Type 0) (name : List ℕ) (before now : Option (List ℕ)) (f g : ℕ) (r : Result Status Stop)
    → EndsOne (IsOfWork w known file) IsBegun before now f g r → IfOk r (λ s. AsksLast name s.0 before now)
asks_read w known file IsBegun name before now f g (Ok s) ends =
    last_behind name s.0 ends.answer.status before now ends.stated (status_behind w known file ends.answer ends.is)
asks_read w known file IsBegun name before now f g (Err why) ends = tt

-- its name wasn't fetched
pub asks_lost : (name : List ℕ) (c d : ℕ) (before now : Option (List ℕ)) (f g : ℕ) (r : Result Status Stop)
    → EndsUnfetched name c d before now f g r → IfOk r (λ s. AsksLast name s.0 before now)
asks_lost name c d before now f g (Ok s) ends = (λ h. omega (arith, ends.1), λ h. ends.2)
asks_lost name c d before now f g (Err why) ends = tt

-- ---- the words

pub asks_of : (w : Work) (keys_name name : List ℕ) (status : ℕ) (a c : AskedNames) (before now : Option (List ℕ))
    → AsksKeys keys_name status a c before now ⊎ AsksBoth keys_name name status a c before now → Asks (command_of_work w keys_name name) status a c before now
asks_of work.Replay keys_name name status a c before now asks = asks
asks_of work.Check keys_name name status a c before now asks = asks
asks_of (work.Audit ends) keys_name name status a c before now asks = asks

-- the key file wasn't fetched
pub asks_words_lost : (w : Work) (keys_name name : List ℕ) (a b : AskedNames) (c d : ℕ) (before now : Option (List ℕ)) (f g : ℕ) (r : Result Status Stop)
    → IfOk r (λ s. Grew a b (keys_name ∷ [])) → EndsUnfetched keys_name c d before now f g r
    → IfOk r (λ s. Asks (command_of_work w keys_name name) s.0 a b before now)
asks_words_lost w keys_name name a b c d before now f g (Ok s) first ends =
    asks_of w keys_name name s.0 a b before now (inl (record { asked_for = first; ends = inl ends.1; written = λ h. ends.2 }))
asks_words_lost w keys_name name a b c d before now f g (Err why) first ends = tt
