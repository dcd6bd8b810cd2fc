-- One step more, the one that isn't done, and the end.
use Rattle.std.proofs.Common.{◌≡◌, ◌<◌, ℕ, List, length, get_or, slice_get, Some, refl, ap, sym, subst}
use Rattle.std.proofs.lemmas.Option.{slice_get_read}
use Rattle.er_scenario.specs.declared.level.Level.{Level}
use Rattle.er_scenario.specs.declared.step.Step.{Step}
use Rattle.drill_model.specs.StepLevels.{IsOfLevel}
use Rattle.drill_model.specs.Worlds.{DrillPlan}
use Rattle.er_program.proofs.BulkRuns.{doable_at, did_none, did_more, did_all}
use Rattle.er_program.proofs.bulk.do_all.Goals as goal

-- the step at an index
item_at : (xs : List Step) (i : ℕ) (x : Step) → i < length xs → x ≡ get_or xs i x → slice_get xs i ≡ Some x
item_at xs i x inside is = slice_get_read xs (length xs) i x refl inside is

pub loop-step-init : goal.loop-step-init
loop-step-init c = did_none _ _ _ refl c.requires.ran c.requires.unspent

pub do_unseen-requires-clause-level : goal.do_unseen-requires-clause-level
do_unseen-requires-clause-level c =
    let doable = doable_at _ _ _ _ c.requires.doable (item_at _ _ _ c.loop-step-test.true c.step-item.is) in
    subst (λ (l : Level). IsOfLevel l c.step-item.result) (sym (ap (λ (p : DrillPlan). p.level) c.loop-step.invariant.plan_is)) doable

pub do_unseen-requires-clause-unspent : goal.do_unseen-requires-clause-unspent
do_unseen-requires-clause-unspent c = c.loop-step.invariant.unspent

pub returns-in-Err : goal.returns-in-Err
returns-in-Err c = record {
  count = c.loop-step.step-index;
  step = c.step-item.result;
  next = item_at _ _ _ c.loop-step-test.true c.step-item.is;
  are_done = c.loop-step.invariant.are_done;
  is = c.in-Err.ensures.fault _ _ c.loop-step.invariant.ran;
}

pub loop-step-preserved : goal.loop-step-preserved
loop-step-preserved c =
    did_more _ _ _ _ _ _ c.loop-step.invariant (item_at _ _ _ c.loop-step-test.true c.step-item.is) (c.in-Ok.ensures.ran _ _ c.loop-step.invariant.ran)
    (c.in-Ok.ensures.none _ _ c.loop-step.invariant.ran) c.in-Ok.ensures.plan c.in-Ok.ensures.unspent

pub returns : goal.returns
returns c = did_all _ _ _ _ c.loop-step.invariant c.loop-step-test.false
