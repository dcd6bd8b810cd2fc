-- What a check answers, as its script does it.
use Rattle.std.proofs.Common.{◌≡◌, ℕ, List, [], ◌∷◌, ◌++◌, length, Option, Some, None, Err, refl, sym, subst, ap, ◌∙◌, append_assoc, append-nil}
use Rattle.er_settings.specs.Values.{Settings}
use Rattle.er_trace.specs.declared.entry.Entry.{Entry}
use Rattle.er_end_model.specs.Steps.{Finds}
use Rattle.trace_model.specs.declared.check_verdict.CheckVerdict.{CheckVerdict}
use Rattle.trace_model.specs.declared.replay_fault.ReplayFault.{ReplayFault}
use Rattle.trace_model.specs.declared.replay_fault.ReplayFault.TheVariants.{NoConn, ConnTwice, MomentBack, NoKey, Many, Sink, NoMemory}
use Rattle.trace_model.specs.Checks.{fault_of_trace_event}
use Rattle.trace_model.specs.Recordings.{IsJudged, IsChecked}
use Rattle.trace_model.specs.Replays.{AreTaken, HasFirstRefusedEvent}
use Rattle.outside.specs.Doings.{Told}
use Rattle.outside.specs.Scripts.{End, Does, says_last}
use Rattle.er_statuses.specs.FileScripts.{answers}
use Rattle.er_program.specs.Answers.{replay_fault_line, verdict_answer}
use Rattle.er_program.specs.EventWriting.{TellsRefusal}
use Rattle.er_program.specs.KeyedScripts.{first_refusal, first_event_fault, tells_check, checks_events}
use Rattle.er_program.proofs.KeyedSpending.{spent_telling}
use Rattle.er_program.proofs.TraceTexts.{taken_none, taken_more}

-- ---- the first event that isn't taken

module _ (s : Settings) (f : Finds) where
  -- where all are, none isn't
  none_from : (done rest : List Entry) → AreTaken s f (done ++ rest) → first_event_fault s f done rest ≡ None
  unfolding first_event_fault
  none_from done [] taken = refl
  none_from done (e ∷ rest) taken =
      ap (λ (o : Option ReplayFault). first_refusal o (first_event_fault s f (done ++ e ∷ []) rest)) (taken done e rest refl)
      ∙ none_from (done ++ e ∷ []) rest (subst (λ (xs : List Entry). AreTaken s f xs) (sym (append_assoc done (e ∷ []) rest)) taken)

  -- the first of them
  some_from : (done first : List Entry) (e : Entry) (rest : List Entry) (fault : ReplayFault) → AreTaken s f (done ++ first) → fault_of_trace_event s f (done ++ first) e ≡ Some fault
      → first_event_fault s f done (first ++ e ∷ rest) ≡ Some fault
  unfolding first_event_fault
  some_from done [] e rest fault taken is =
      ap (λ (o : Option ReplayFault). first_refusal o (first_event_fault s f (done ++ e ∷ []) rest))
      (subst (λ (xs : List Entry). fault_of_trace_event s f xs e ≡ Some fault) (append-nil done) is)
  some_from done (x ∷ first) e rest fault taken is =
      let same : (done ++ x ∷ []) ++ first ≡ done ++ x ∷ first = append_assoc done (x ∷ []) first in
      ap (λ (o : Option ReplayFault). first_refusal o (first_event_fault s f (done ++ x ∷ []) (first ++ e ∷ rest))) (taken done x first refl)
      ∙ some_from (done ++ x ∷ []) first e rest fault (subst (λ (xs : List Entry). AreTaken s f xs) (sym same) taken)
      (subst (λ (xs : List Entry). fault_of_trace_event s f xs e ≡ Some fault) (sym same) is)

  none_first : (entries : List Entry) → AreTaken s f entries → first_event_fault s f [] entries ≡ None
  none_first entries taken = none_from [] entries taken

  some_first : (entries : List Entry) (fault : ReplayFault) → HasFirstRefusedEvent s f entries fault → first_event_fault s f [] entries ≡ Some fault
  some_first entries fault first =
      ap (λ (xs : List Entry). first_event_fault s f [] xs) first.is ∙ some_from [] first.first first.entry first.rest fault first.taken first.refused

  -- and the other way round
  abbrev pub First : (entries : List Entry) → Option ReplayFault → Type 0
  First entries None = AreTaken s f entries
  First entries (Some fault) = HasFirstRefusedEvent s f entries fault

  first_at : (done : List Entry) (e : Entry) (rest : List Entry) (found : Option ReplayFault) → fault_of_trace_event s f done e ≡ found → AreTaken s f done
      → (AreTaken s f (done ++ e ∷ []) → First ((done ++ e ∷ []) ++ rest) (first_event_fault s f (done ++ e ∷ []) rest))
      → First (done ++ e ∷ rest) (first_refusal found (first_event_fault s f (done ++ e ∷ []) rest))
  first_at done e rest (Some fault) is taken further = record { first = done; entry = e; rest = rest; is = refl; taken = taken; refused = is }
  first_at done e rest None is taken further =
      subst (λ (xs : List Entry). First xs (first_event_fault s f (done ++ e ∷ []) rest)) (append_assoc done (e ∷ []) rest) (further (taken_more s f done e taken is))

  first_from : (done rest : List Entry) → AreTaken s f done → First (done ++ rest) (first_event_fault s f done rest)
  unfolding first_event_fault
  first_from done [] taken = subst (λ (xs : List Entry). AreTaken s f xs) (sym (append-nil done)) taken
  first_from done (e ∷ rest) taken =
      first_at done e rest (fault_of_trace_event s f done e) refl taken (λ more. first_from (done ++ e ∷ []) rest more)

  pub first_of_all : (entries : List Entry) → First entries (first_event_fault s f [] entries)
  first_of_all entries = first_from [] entries (taken_none s f)

-- ---- the script

module _ (s : Settings) (f : Finds) (entries : List Entry) (file : List ℕ) (before now : Told) (end : End) where
  -- all are taken
  pub checked_all : (events : ℕ) (verdict : CheckVerdict) → events ≡ length entries → IsJudged s f entries file verdict
      → Does (answers (verdict_answer events verdict)) before now end → Does (checks_events file s f entries) before now end
  checked_all events verdict count judged does =
      subst (λ (o : Option ReplayFault). Does (tells_check file s f entries o) before now end) (sym (none_first s f entries judged.taken))
      (subst (λ (v : CheckVerdict). Does (answers (verdict_answer (length entries) v)) before now end) judged.is
      (subst (λ (n : ℕ). Does (answers (verdict_answer n verdict)) before now end) count does))

  told : (fault : ReplayFault) → HasFirstRefusedEvent s f entries fault → Does (says_last 3 (replay_fault_line fault)) before now end → Does (checks_events file s f entries) before now end
  told fault first does = subst (λ (o : Option ReplayFault). Does (tells_check file s f entries o) before now end) (sym (some_first s f entries fault first)) does

  -- one isn't
  pub checked_part : (fault : ReplayFault) → IsChecked s f entries file (Err fault) → TellsRefusal fault before now end → Does (checks_events file s f entries) before now end
  checked_part (NoConn line conn) first tells = told (NoConn line conn) first tells
  checked_part (ConnTwice line conn) first tells = told (ConnTwice line conn) first tells
  checked_part (MomentBack line was moment) first tells = told (MomentBack line was moment) first tells
  checked_part (NoKey line engine rbc) first tells = told (NoKey line engine rbc) first tells
  checked_part (Many line live) first tells = told (Many line live) first tells
  checked_part Sink first tells = absurd first
  checked_part (NoMemory want) first tells =
      subst (λ (t : Told). Does (checks_events file s f entries) before t end) (sym tells.0)
      (subst (λ (e : End). Does (checks_events file s f entries) before before e) (sym tells.1) (spent_telling file s f entries (first_event_fault s f [] entries) before))
