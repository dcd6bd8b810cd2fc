-- Representation: how the code does a list of steps of which nothing is printed; no claim rests on it.
use Rattle.std.specs.Prelude.{◌≡◌, ℕ, false, List, take, length, slice_get, Some, Result, Ok, Err}
use Rattle.std.specs.List.{AllByRecursion}
use Rattle.er_scenario.specs.declared.level.Level.{Level}
use Rattle.er_scenario.specs.declared.step.Step.{Step}
use Rattle.drill_model.specs.declared.world_fault.WorldFault.{WorldFault}
use Rattle.drill_model.specs.StepLevels.{IsOfLevel}
use Rattle.drill_model.specs.Worlds.{DrillPlan}
use Rattle.er_world.specs.Standing.{KeptWorld, Ran, IsFaultBehind}
use Rattle.drill_model.specs.Faults.{AllDone}

-- steps that a world of this level takes
abbrev pub AreDoable : Level → List Step → Type 0
AreDoable level steps = AllByRecursion (IsOfLevel level) steps

-- so many steps of a list were done: where the world stands
pub record DidFirst (plan : DrillPlan) (steps : List Step) (count : ℕ) (kept : KeptWorld) : Type 0 where
  pub are_done : AllDone plan steps count
  pub ran : Ran kept plan (take count steps)
  pub plan_is : kept.plan ≡ plan
  pub unspent : kept.spent ≡ false

-- so many were done, and the next one wasn't, for this fault
pub record HaltedAt (plan : DrillPlan) (steps : List Step) (fault : WorldFault) : Type 0 where
  pub count : ℕ
  pub step : Step
  pub next : slice_get steps count ≡ Some step
  pub are_done : AllDone plan steps count
  pub is : IsFaultBehind plan (take count steps) step fault

-- all were done, or one wasn't
abbrev pub DoesAll : DrillPlan → List Step → KeptWorld → Result (Unit {0}) WorldFault → Type 0
DoesAll plan steps kept (Ok done) = DidFirst plan steps (length steps) kept
DoesAll plan steps kept (Err fault) = HaltedAt plan steps fault
