-- Contract: what a step did to the outside, and how a run ends at one that isn't done.
use Rattle.std.specs.Prelude.{◌≡◌, ℕ, false, List, [], ◌∷◌, ◌++◌, drop, None, Result, Ok, Err}
use Rattle.er_scenario.specs.declared.step.Step.{Step}
use Rattle.er_scenario.specs.declared.scenario.Scenario.{Scenario}
use Rattle.drill_model.specs.declared.world_fault.WorldFault.{WorldFault}
use Rattle.drill_model.specs.declared.world_fault.WorldFault.TheVariants.{NoLink, LinkTwice, MomentBack, Overfull, NoMemory}
use Rattle.drill_model.specs.Worlds.{DrillPlan, plan_of}
use Rattle.drill_model.specs.Faults.{fault_behind}
use Rattle.drill_model.specs.Texts.{step_lines}
use Rattle.er_world.specs.Standing.{KeptWorld, Ran, IsFaultBehind}
use Rattle.outside.specs.Acts.{Wrote}
use Rattle.outside.specs.Doings.{Told, Did}
use Rattle.outside.specs.Scripts.{End, OutOfMemory, Does, LeadsOn, printing}
use Rattle.er_statuses.specs.FileScripts.{answers}
use Rattle.er_program.specs.Answers.{fault_answer, first_steps}
use Rattle.er_program.specs.StepScripts.{drills_steps}
use Rattle.er_program.specs.declared.halt.Halt.{Halt}
use Rattle.er_program.specs.declared.halt.Halt.TheVariants as halt

-- the fault of a step that isn't done was told; where it is want of memory, nothing was done
abbrev pub TellsFault : ℕ → WorldFault → (before now : Told) → End → Type 0
TellsFault line (NoLink n) before now end = Does (answers (fault_answer line (NoLink n))) before now end
TellsFault line (LinkTwice n) before now end = Does (answers (fault_answer line (LinkTwice n))) before now end
TellsFault line (MomentBack was moment) before now end = Does (answers (fault_answer line (MomentBack was moment))) before now end
TellsFault line (Overfull n side most) before now end = Does (answers (fault_answer line (Overfull n side most))) before now end
TellsFault line (NoMemory want) before now end = (now ≡ before) × (end ≡ OutOfMemory)

-- a step was done behind these, and its lines were printed
pub record WentOne (plan : DrillPlan) (done : List Step) (old : KeptWorld) (s : Step) (new : KeptWorld) (before now : Told) : Type 0 where
  pub ran : Ran new plan (done ++ s ∷ [])
  pub none : fault_behind plan done s ≡ None
  pub plan_is : new.plan ≡ old.plan
  pub unspent : new.spent ≡ false
  pub printed : Did before now (printing (step_lines plan done s))

-- it was done, and the write of its lines failed
pub record FailedOne (plan : DrillPlan) (done : List Step) (s : Step) (before now : Told) : Type 0 where
  pub none : fault_behind plan done s ≡ None
  pub sank : Did before now (Wrote (step_lines plan done s) false ∷ [])

-- it wasn't done, for this fault
pub record HaltsOne (plan : DrillPlan) (done : List Step) (s : Step) (before now : Told) (fault : WorldFault) : Type 0 where
  pub is : IsFaultBehind plan done s fault
  pub rests : now ≡ before

abbrev pub StepsOne : DrillPlan → List Step → KeptWorld → Step → KeptWorld → (before now : Told) → Result (Unit {0}) Halt → Type 0
StepsOne plan done old s new before now (Ok none) = WentOne plan done old s new before now
StepsOne plan done old s new before now (Err halt.Sink) = FailedOne plan done s before now
StepsOne plan done old s new before now (Err (halt.Fault fault)) = HaltsOne plan done s before now fault

-- so many steps of a drill were done: where the world stands, and that what is left is the script of the steps behind them
pub record DrilledTo (s : Scenario) (count : ℕ) (kept : KeptWorld) (before now : Told) : Type 0 where
  pub ran : Ran kept (plan_of s) (first_steps s count)
  pub plan_is : kept.plan ≡ plan_of s
  pub unspent : kept.spent ≡ false
  pub leads : LeadsOn (drills_steps (plan_of s) [] s.steps) (drills_steps (plan_of s) (first_steps s count) (drop count s.steps)) before now
