-- A bulk run (this profile): its steps in a world of level full with the usual settings, and the one line that is printed of it.
use Rattle.std.specs.Prelude.{ℕ, ◌≡◌, false, List, [], ◌∷◌, take, slice_get, Some, codes}
use Rattle.std.specs.Fmt.{decimal}
use Rattle.er_base.specs.LineTexts.{line_text}
use Rattle.er_base.specs.declared.side.Side.{Side}
use Rattle.er_settings.specs.Making.{usual_settings}
use Rattle.er_scenario.specs.declared.level.Level.TheVariants as level
use Rattle.er_scenario.specs.declared.step.Step.{Step}
use Rattle.drill_model.specs.declared.totals.Totals.{Totals}
use Rattle.drill_model.specs.declared.world_fault.WorldFault.TheVariants.{Overfull}
use Rattle.drill_model.specs.Worlds.{DrillPlan, world_run}
use Rattle.drill_model.specs.Faults.{fault_behind, AllDone}
use Rattle.drill_model.specs.Totals.{totals_of}
use Rattle.drill_bulk.specs.Turns.{bulk_steps}

-- the most messages of a bulk run
abbrev pub most_messages : ℕ
most_messages = 10000

abbrev pub bulk_plan : DrillPlan
bulk_plan = record { level = level.Full; settings = usual_settings; show = false }

-- the steps of a seed and a count
unfoldable pub steps_of_bulk : (seed count : ℕ) → List Step
steps_of_bulk seed count = bulk_steps seed count

-- what was counted in the run of exactly these steps
abbrev pub totals_of_bulk : (seed count : ℕ) → Totals
totals_of_bulk seed count = totals_of (world_run bulk_plan (steps_of_bulk seed count)).1

-- the line
abbrev pub totals_line : (seed count : ℕ) → Totals → List ℕ
totals_line seed count totals =
    line_text (codes "bulk" ∷ decimal seed ∷ decimal count ∷ codes "sent" ∷ decimal totals.sent ∷ codes "accepted" ∷ decimal totals.accepted
    ∷ codes "passes" ∷ decimal totals.passes ∷ codes "lost" ∷ decimal totals.lost ∷ codes "repeated" ∷ decimal totals.repeated ∷ [])

-- so many steps of a list are done, and in the next one too many frames would wait in one direction
pub record FirstOverfull (plan : DrillPlan) (steps : List Step) : Type 0 where
  pub count : ℕ
  pub step : Step
  pub next : slice_get steps count ≡ Some step
  pub are_done : AllDone plan steps count
  pub link : ℕ
  pub side : Side
  pub most : ℕ
  pub is_overfull : fault_behind plan (take count steps) step ≡ Some (Overfull link side most)
