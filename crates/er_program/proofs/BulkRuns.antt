-- How a bulk run ends, from how its parts end.
use Rattle.std.proofs.Common.{◌≡◌, ℕ, zero, suc, false, ◌+◌, ◌≤◌, inl, inr, List, [], ◌∷◌, ◌++◌, length, take, slice_get, Option, Some, None, Result, Ok, Err, IfOk, refl, ap, sym, subst, ◌∙◌, arith}
use Rattle.std.proofs.lemmas.Bool.{cases_eq}
use Rattle.std.proofs.lemmas.List.{take_all}
use Rattle.std.proofs.lemmas.Option.{same_Some}
use Rattle.er_settings.specs.Values.{Settings}
use Rattle.er_settings.specs.Making.{usual_settings}
use Rattle.er_scenario.specs.declared.level.Level.{Level}
use Rattle.er_scenario.specs.declared.level.Level.TheVariants as level
use Rattle.er_scenario.specs.declared.step.Step.{Step}
use Rattle.drill_model.specs.StepLevels.{IsOfLevel}
use Rattle.drill_model.specs.Worlds.{DrillPlan}
use Rattle.drill_model.specs.Faults.{fault_behind, AllDone}
use Rattle.drill_bulk.specs.Turns.{bulk_steps}
use Rattle.er_world.specs.Standing.{KeptWorld, Ran}
use Rattle.er_statuses.specs.Answers.{Files}
use Rattle.er_program.specs.Answers.{IsBulkAnswer}
use Rattle.er_program.specs.Commands.{Bulk}
use Rattle.er_program.specs.BulkTexts.{bulk_plan, steps_of_bulk}
use Rattle.er_program.specs.BulkRuns.{AreDoable, DidFirst}
use Rattle.er_program.specs.KeyWriting.{GivesOne}
use Rattle.er_program.specs.Writing.{EndsCommand}
use Rattle.er_statuses.specs.declared.status.Status.{Status}
use Rattle.er_statuses.specs.declared.stop.Stop.{Stop}
use Rattle.er_statuses.specs.declared.stop.Stop.TheVariants as stop
use Rattle.er_program.proofs.BulkSteps.{take_one_more, steps_doable}

-- ---- the loop

pub doable_at : (level : Level) (steps : List Step) (i : ℕ) (s : Step) → AreDoable level steps → slice_get steps i ≡ Some s → IsOfLevel level s
doable_at level [] i s all at = absurd (cc)
doable_at level (x ∷ xs) zero s all at = subst (IsOfLevel level) (same_Some x s at) all.0
doable_at level (x ∷ xs) (suc i) s all at = doable_at level xs i s all.1 at

all_more : (plan : DrillPlan) (steps : List Step) (i : ℕ) (s : Step) → AllDone plan steps i → slice_get steps i ≡ Some s → fault_behind plan (take i steps) s ≡ None
    → AllDone plan steps (i + 1)
all_more plan steps i s done at none k y lt is =
    elim (cases_eq k i) [
      | inl same ↦
          let P : ℕ → Type 0 = λ j. slice_get steps j ≡ Some y in
          let one : s ≡ y = same_Some s y (sym at ∙ subst P same is) in
          let Q : ℕ → Type 0 = λ j. fault_behind plan (take j steps) y ≡ None in
          subst Q (sym same) (subst (λ (x : Step). fault_behind plan (take i steps) x ≡ None) one none)
      | inr apart ↦ done k y (omega (arith, lt, apart)) is
    ]

pub did_none : (plan : DrillPlan) (steps : List Step) (kept : KeptWorld) → kept.plan ≡ plan → Ran kept kept.plan [] → kept.spent ≡ false → DidFirst plan steps 0 kept
did_none plan steps kept is ran unspent = record {
  are_done = λ k s lt at. absurd (omega (arith, lt));
  ran = subst (λ (p : DrillPlan). Ran kept p []) is ran;
  plan_is = is;
  unspent = unspent;
}

pub did_more : (plan : DrillPlan) (steps : List Step) (i : ℕ) (s : Step) (k m : KeptWorld) → DidFirst plan steps i k → slice_get steps i ≡ Some s
    → Ran m plan (take i steps ++ s ∷ []) → fault_behind plan (take i steps) s ≡ None → m.plan ≡ k.plan → m.spent ≡ false
    → DidFirst plan steps (i + 1) m
did_more plan steps i s k m did at ran none is unspent = record {
  are_done = all_more plan steps i s did.are_done at none;
  ran = subst (λ (first : List Step). Ran m plan first) (sym (take_one_more steps i s at)) ran;
  plan_is = is ∙ did.plan_is;
  unspent = unspent;
}

pub did_all : (plan : DrillPlan) (steps : List Step) (i : ℕ) (kept : KeptWorld) → DidFirst plan steps i kept → length steps ≤ i → DidFirst plan steps (length steps) kept
did_all plan steps i kept did over = record {
  are_done = λ k s lt at. did.are_done k s (omega (arith, lt, over)) at;
  ran = subst (λ (first : List Step). Ran kept plan first) (take_all i steps over ∙ sym (take_all (length steps) steps (omega arith))) did.ran;
  plan_is = did.plan_is;
  unspent = did.unspent;
}

-- ---- the steps that were drawn

pub drawn_doable : {A E : Type 0} (items : A → List Step) (seed count : ℕ) (r : Result A E)
    → IfOk r (λ v. items v ≡ bulk_steps seed count) → IfOk r (λ v. AreDoable level.Full (items v))
unfolding steps_of_bulk
drawn_doable items seed count (Ok v) is = steps_doable seed count (items v) is
drawn_doable items seed count (Err e) is = tt

pub planned : (plan : DrillPlan) (s : Settings) → plan ≡ record { level = level.Full; settings = s; show = false } → s ≡ usual_settings → plan ≡ bulk_plan
planned plan s is same = is ∙ ap (λ (x : Settings). record { level = level.Full; settings = x; show = false }) same

pub doable_so : (plan : DrillPlan) (xs ys : List Step) → plan ≡ bulk_plan → xs ≡ ys → AreDoable level.Full ys → AreDoable plan.level xs
doable_so plan xs ys is same doable =
    subst (λ (p : DrillPlan). AreDoable p.level xs) (sym is) (subst (AreDoable level.Full) (sym same) doable)

pub ran_so : (kept : KeptWorld) (plan : DrillPlan) → kept.plan ≡ plan → Ran kept plan [] → Ran kept kept.plan []
ran_so kept plan is ran = subst (λ (p : DrillPlan). Ran kept p []) (sym is) ran

-- ---- the words

-- an answer to the words of a bulk run
pub ends_bulk : (seed count : ℕ) (files : Files) (c d : ℕ) (before now : Option (List ℕ)) (f g : ℕ) (r : Result Status Stop)
    → GivesOne (IsBulkAnswer seed count) before now f g r → EndsCommand (Bulk seed count) files c d before now f g r
ends_bulk seed count files c d before now f g (Ok s) ends =
    record { answer = ends.answer; is = ends.is; stated = ends.stated; printed = ends.printed; later = ends.later }
ends_bulk seed count files c d before now f g (Err stop.Sink) ends =
    record { answer = ends.answer; is = ends.is; part = ends.part; rose = ends.rose }
ends_bulk seed count files c d before now f g (Err (stop.NoMemory want)) ends = record { text = []; first = refl; printed = ends.0; later = ends.1 }
