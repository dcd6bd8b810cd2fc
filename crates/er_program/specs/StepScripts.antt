-- What the commands over steps do to the outside, as scripts (this profile): `drill` and `bulk`.
use Rattle.std.specs.Prelude.{◌≡◌, ℕ, List, [], ◌∷◌, ◌++◌, Option, Some, None, Result, Ok, Err}
use Rattle.er_base.specs.declared.text_fault.TextFault.{TextFault}
use Rattle.er_base.specs.declared.text_fault.TextFault.TheVariants as text
use Rattle.er_scenario.specs.declared.step.Step.{Step}
use Rattle.er_scenario.specs.declared.numbered.Numbered.{Numbered}
use Rattle.er_scenario.specs.declared.scenario.Scenario.{Scenario}
use Rattle.er_scenario.specs.Files.{scenario_of}
use Rattle.er_scenario.specs.Texts.{CanBeRead}
use Rattle.drill_model.specs.declared.world_fault.WorldFault.{WorldFault}
use Rattle.drill_model.specs.Worlds.{DrillPlan, plan_of}
use Rattle.drill_model.specs.Faults.{or_else, fault_behind}
use Rattle.drill_model.specs.Texts.{step_lines, last_lines}
use Rattle.outside.specs.Scripts.{Script, Ends, Prints, Knowing, says_last}
use Rattle.er_statuses.specs.LastLines.{fault_line, why_word}
use Rattle.er_statuses.specs.FileScripts.{answers, fetches_file}
use Rattle.er_program.specs.Answers.{fault_answer}
use Rattle.er_program.specs.BulkTexts.{bulk_plan, steps_of_bulk, totals_of_bulk, totals_line}

-- ---- a drill

-- a step that is done has its lines printed, and then the rest is done; one that isn't has its fault's line printed, and that ends the run
abbrev pub prints_or_ends : Option WorldFault → (line : ℕ) → (lines : List ℕ) → Script → Script
prints_or_ends None line lines next = Prints (λ text. text ≡ lines) next
prints_or_ends (Some fault) line lines next = answers (fault_answer line fault)

-- steps are done one after another behind those that were done before, and then the closing lines of the links are printed
unfoldable pub drills_steps : DrillPlan → (done : List Step) → List Numbered → Script
drills_steps plan done [] = says_last 0 (last_lines plan done)
drills_steps plan done (x ∷ rest) =
    prints_or_ends (fault_behind plan done x.step) x.line (step_lines plan done x.step) (drills_steps plan (done ++ x.step ∷ []) rest)

-- a file that spells a scenario is drilled, and what it spells is in its ranges; a fault of its grammar has its line printed alone. What a
-- file says is never want of memory
abbrev pub drills_read : Result Scenario TextFault → Script
drills_read (Ok s) = Knowing (CanBeRead s) (drills_steps (plan_of s) [] s.steps)
drills_read (Err (text.At line why)) = says_last 3 (fault_line line (why_word why))
drills_read (Err (text.NoMemory want)) = Knowing ⊥ (Ends 7)

-- `drill SCENARIO`
abbrev pub drills : (name : List ℕ) → Script
drills name = fetches_file name (λ file. drills_read (scenario_of file))

-- ---- a bulk run

-- why the first of these steps that isn't done, behind those that were done before, isn't
unfoldable pub first_step_fault : DrillPlan → (done steps : List Step) → Option WorldFault
first_step_fault plan done [] = None
first_step_fault plan done (s ∷ rest) = or_else (fault_behind plan done s) (first_step_fault plan (done ++ s ∷ []) rest)

-- nothing is printed of its steps: their totals where all are done, and else the line of the first fault
unfoldable pub counts_steps : (seed count : ℕ) → Option WorldFault → Script
counts_steps seed count None = says_last 0 (totals_line seed count (totals_of_bulk seed count))
counts_steps seed count (Some fault) = answers (fault_answer 0 fault)

-- `bulk SEED COUNT`
abbrev pub bulks : (seed count : ℕ) → Script
bulks seed count = counts_steps seed count (first_step_fault bulk_plan [] (steps_of_bulk seed count))
