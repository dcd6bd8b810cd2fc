-- Before the first step, one step more, a step that breaks off, and the end, by the lemmas on what is left of the script.
use Rattle.std.proofs.Common.{◌≡◌, ◌<◌, ◌≤◌, List, ℕ, length, get_or, slice_get, Some, refl, subst, sym, ap}
use Rattle.std.proofs.lemmas.Option.{slice_get_read}
use Rattle.er_scenario.specs.declared.level.Level.{Level}
use Rattle.er_scenario.specs.declared.numbered.Numbered.{Numbered}
use Rattle.drill_model.specs.StepLevels.{IsOfLevel}
use Rattle.drill_model.specs.Worlds.{DrillPlan, plan_of}
use Rattle.er_program.proofs.DrillSteps.{of_level, readable_at}
use Rattle.er_program.proofs.Drilling.{went_none, went_more, went_sink, went_halt, went_end}
use Rattle.er_program.proofs.drill.drill_steps.Goals as goal

-- the step at an index, among those of the scenario
item_at : (xs ys : List Numbered) (i : ℕ) (x : Numbered) → xs ≡ ys → i < length xs → x ≡ get_or xs i x → slice_get ys i ≡ Some x
item_at xs ys i x same inside is = subst (λ (zs : List Numbered). slice_get zs i ≡ Some x) same (slice_get_read xs (length xs) i x refl inside is)

pub loop-numbered-init : goal.loop-numbered-init
loop-numbered-init g c = went_none c.args.scenario.now _ _ c.in_ok-world.ensures.ran c.in_ok-world.ensures.plan c.in_ok-world.ensures.unspent

pub step_once-requires-clause-level : goal.step_once-requires-clause-level
step_once-requires-clause-level g c =
    let readable = readable_at c.args.scenario.now.level c.args.scenario.now.steps c.loop-numbered.numbered-index c.numbered-item.result c.requires.steps
    (item_at _ _ _ _ c.as_slice-numbered-items.ensures c.loop-numbered-test.true c.numbered-item.is) in
    subst (λ (l : Level). IsOfLevel l c.numbered-item.result.step) (sym (ap (λ (p : DrillPlan). p.level) c.loop-numbered.invariant.plan_is))
    (of_level c.args.scenario.now.level c.numbered-item.result.step readable.of_level)

pub returns-in-Err-Sink : goal.returns-in-Err-Sink
returns-in-Err-Sink g c = record {
  does = went_sink c.args.scenario.now c.loop-numbered.numbered-index c.numbered-item.result _ _ _ _ c.loop-numbered.invariant
      (item_at _ _ _ _ c.as_slice-numbered-items.ensures c.loop-numbered-test.true c.numbered-item.is)
      (rw c.in-Err-Sink.field-0-is at (c.in-Err-Sink.ensures.steps (plan_of c.args.scenario.now) _ c.loop-numbered.invariant.ran));
}

pub returns-in-Err-Fault : goal.returns-in-Err-Fault
returns-in-Err-Fault g c = record {
  does = went_halt c.args.scenario.now c.loop-numbered.numbered-index c.numbered-item.result _ _ _ _ _ _ _ c.loop-numbered.invariant
      (item_at _ _ _ _ c.as_slice-numbered-items.ensures c.loop-numbered-test.true c.numbered-item.is)
      (rw c.in-Err-Fault.field-0-is at (c.in-Err-Fault.ensures.steps (plan_of c.args.scenario.now) _ c.loop-numbered.invariant.ran))
      (rw c.in-Err-Fault.field-0-is at c.not_done.ensures.tells);
}

pub loop-numbered-preserved : goal.loop-numbered-preserved
loop-numbered-preserved g c =
    went_more c.args.scenario.now c.loop-numbered.numbered-index c.numbered-item.result _ _ _ _ _ c.loop-numbered.invariant
    (item_at _ _ _ _ c.as_slice-numbered-items.ensures c.loop-numbered-test.true c.numbered-item.is)
    (c.in-Ok.ensures.steps (plan_of c.args.scenario.now) _ c.loop-numbered.invariant.ran)

pub returns : goal.returns
returns g c = record {
  does = went_end c.args.scenario.now c.loop-numbered.numbered-index _ _ _ _ _ c.loop-numbered.invariant
      (subst (λ (xs : List Numbered). length xs ≤ c.loop-numbered.numbered-index) c.as_slice-numbered-items.ensures c.loop-numbered-test.false)
      (c.closed.ensures.closes (plan_of c.args.scenario.now) _ c.loop-numbered.invariant.ran);
}
