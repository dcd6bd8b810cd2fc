-- The ends of the stack behind all events, and under a loop.
use Rattle.std.proofs.Common.{◌≡◌, ◌∙◌, ℕ, List, [], ◌∷◌, ◌++◌, Option, None, sym, ap, append-nil, append_assoc}
use Rattle.std.proofs.lemmas.List.Elements.{All-weaker}
use Rattle.er_settings.specs.Values.{Settings}
use Rattle.safety_automaton.specs.Rules.{StepsOnly}
use Rattle.er_end_model.specs.Ends.{End}
use Rattle.application_model.specs.Ends.{EndStage, SettingUp, KnownEnd, end_stage_behind, EventAt, EndKind, texts_accepted}
use Rattle.application_model.specs.Services.{at_start, behind_items}
use Rattle.application_model.specs.Claims.{outcomes_alone}
use Rattle.application_model.specs.Laws.{ServiceIsAsClaimed, WaitsForRoomAlone, AcceptedAreTold, EndsHaveTheirEvents, IsKnownByEvents, KnowsByEvents}
use Rattle.application_ends.specs.StackEnds.{HeldKeys, stack_end_behind, end_of_events, texts_accepted_at, stack_kind, stage_of_end}
use Rattle.application_ends.specs.Laws.{stack_history, stack_service, StackLosesNothing, OutcomesSayTheStage, KnownStagesAreTrue}
use Rattle.application_ends.proofs.Leading.{in_parts}
use Rattle.application_ends.proofs.Keeping.{befalls, end_on, keeps, takes_oldest, takes_alone}

module _ (steps_only : StepsOnly) (settings : Settings) (held : HeldKeys) where
  abbrev kind : EndKind
  kind = stack_kind settings held

  -- the end behind one event more, and then the others
  end_then : (before : List EventAt) (x : EventAt) (xs : List EventAt)
      → end_of_events settings held ((before ++ x ∷ []) ++ xs) ≡ end_of_events settings held (before ++ x ∷ xs)
  end_then before x xs = ap (end_of_events settings held) (append_assoc before (x ∷ []) xs)

  accepted_behind : (before xs : List EventAt)
      → texts_accepted_at (end_of_events settings held (before ++ xs)) ≡ texts_accepted_at (end_of_events settings held before) ++ texts_accepted (outcomes_alone kind before xs)
  accepted_behind before [] =
      ap (λ (e : List EventAt). texts_accepted_at (end_of_events settings held e)) (append-nil before)
      ∙ sym (append-nil (texts_accepted_at (end_of_events settings held before)))
  accepted_behind before (x ∷ xs) =
      let told = kind.tells before x.time x.event in
      let rest = outcomes_alone kind (before ++ x ∷ []) xs in
      let here = texts_accepted_at (end_of_events settings held before) in
      ap texts_accepted_at (sym (end_then before x xs))
      ∙ accepted_behind (before ++ x ∷ []) xs
      ∙ ap (λ (m : Option End). texts_accepted_at m ++ texts_accepted rest) (end_on settings held None before x)
      ∙ ap (λ (t : List (List ℕ)). t ++ texts_accepted rest) (befalls steps_only settings (held x.time.keys) x.time.moment x.event (end_of_events settings held before)).accepted
      ∙ append_assoc here (texts_accepted told) (texts_accepted rest)
      ∙ ap (λ (t : List (List ℕ)). here ++ t) (sym (in_parts told rest).accepted)

  stage_behind : (before xs : List EventAt)
      → end_stage_behind (stage_of_end (end_of_events settings held before)) (outcomes_alone kind before xs) ≡ stage_of_end (end_of_events settings held (before ++ xs))
  stage_behind before [] = ap (λ (e : List EventAt). stage_of_end (end_of_events settings held e)) (sym (append-nil before))
  stage_behind before (x ∷ xs) =
      let told = kind.tells before x.time x.event in
      let rest = outcomes_alone kind (before ++ x ∷ []) xs in
      (in_parts told rest).stage (stage_of_end (end_of_events settings held before))
      ∙ ap (λ (s : EndStage). end_stage_behind s rest) (befalls steps_only settings (held x.time.keys) x.time.moment x.event (end_of_events settings held before)).stage
      ∙ ap (λ (m : Option End). end_stage_behind (stage_of_end m) rest) (sym (end_on settings held None before x))
      ∙ stage_behind (before ++ x ∷ []) xs
      ∙ ap stage_of_end (end_then before x xs)

  pub all_accepted : (xs : List EventAt) → texts_accepted_at (end_of_events settings held xs) ≡ texts_accepted (outcomes_alone kind [] xs)
  unfolding stack_end_behind
  all_accepted xs = accepted_behind [] xs

  pub stage_said : (xs : List EventAt) → end_stage_behind SettingUp (outcomes_alone kind [] xs) ≡ stage_of_end (end_of_events settings held xs)
  unfolding stack_end_behind
  stage_said xs = stage_behind [] xs

pub says_the_stage : StepsOnly → OutcomesSayTheStage
says_the_stage steps_only settings held events = stage_said steps_only settings held events

pub stages_true : StepsOnly → KnowsByEvents → KnownStagesAreTrue
stages_true steps_only knows settings held happenings =
    let kind = stack_kind settings held in
    let s = stack_service settings held happenings in
    All-weaker (IsKnownByEvents kind s.ends) (λ (k : KnownEnd). k.stage ≡ stage_of_end (end_of_events settings held (s.ends k.number)))
    (λ k is. is ∙ stage_said steps_only settings held (s.ends k.number)) s.known (knows kind happenings)

pub nothing_lost : StepsOnly → ServiceIsAsClaimed → AcceptedAreTold → EndsHaveTheirEvents → WaitsForRoomAlone → StackLosesNothing
nothing_lost steps_only claimed told events waits settings held happenings conn =
    let kind = stack_kind settings held in
    let items = stack_history settings held happenings in
    let came = (behind_items at_start items).ends conn in
    record {
      told =
          all_accepted steps_only settings held came
          ∙ ap (λ (e : List EventAt). texts_accepted (outcomes_alone kind [] e)) (events items conn)
          ∙ ap texts_accepted (sym ((claimed kind happenings).isolated conn))
          ∙ told kind happenings conn (keeps steps_only settings held) (takes_alone steps_only settings held);
      none_waits = λ room live. waits kind happenings conn (takes_oldest settings held) room live;
    }
