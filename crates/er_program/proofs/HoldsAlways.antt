-- What is claimed of the world holds at every moment of the steps that are done, of a drill and of a bulk run, by the law of every list of steps.
use Rattle.std.proofs.Common.{◌≡◌, ℕ, ◌*◌, ◌≤◌, inl, inr, List, [], ◌∷◌, length, map, slice_get, slice_index, None, option_map, sym, ap, subst, ◌∙◌, arith}
use Rattle.std.proofs.lemmas.Bool.{cases_lt, leb-true}
use Rattle.std.proofs.lemmas.List.{get_or_past}
use Rattle.std.proofs.lemmas.Option.{same_Some, none-some, slice_get-map, slice_get_cases}
use Rattle.er_base.specs.Octets.{AreOctets}
use Rattle.er_settings.specs.Values.{Settings}
use Rattle.er_settings.specs.Ranges.{AllAllowed}
use Rattle.er_scenario.specs.declared.level.Level.{Level}
use Rattle.er_scenario.specs.declared.level.Level.TheVariants as level
use Rattle.er_scenario.specs.Choices.{IsNarrow}
use Rattle.er_scenario.specs.declared.step.Step.{Step}
use Rattle.er_scenario.specs.declared.step.Step.TheVariants as does
use Rattle.er_scenario.specs.declared.numbered.Numbered.{Numbered}
use Rattle.er_scenario.specs.declared.scenario.Scenario.{Scenario}
use Rattle.er_scenario.specs.StepRanges.{IsInRange, IsStepText}
use Rattle.er_scenario.specs.Texts.{AreReadableSteps}
use Rattle.drill_model.specs.Steps.{HasOctets, AllFit}
use Rattle.drill_model.specs.Worlds.{plan_of, steps_of}
use Rattle.drill_model.specs.Faults.{AllDone}
use Rattle.drill_model.specs.Headline.{FitsLevel, HoldsAlways}
use Rattle.er_program.specs.Answers.{AreDone, fault_behind_first}
use Rattle.er_program.specs.BulkTexts.{bulk_plan, steps_of_bulk}
use Rattle.er_program.proofs.DrillSteps.{etcs_numbers}
use Rattle.er_program.proofs.RunMeanings.{DrillsHold}
use Rattle.er_program.proofs.BulkMeanings.{BulkHolds}
use Rattle.er_program.proofs.BulkSteps.{usual_allowed, bulk_fits}

-- the octets of a text
text_octets : (text : List ℕ) → IsStepText text → AreOctets text
text_octets text is k =
    elim (cases_lt k (length text)) [
      | inl within ↦ is.1 k within
      | inr past ↦
          let nothing : slice_index text k ≡ 0 = get_or_past text k 0 past in
          omega (arith, nothing)
    ]

has_octets : (s : Step) → IsInRange s → HasOctets s
has_octets (does.Fixed n engine rbc ke kr) range = tt
has_octets (does.Link n engine rbc ke kr ra rb) range = (range.5, range.6)
has_octets (does.Wire n) range = tt
has_octets (does.Send n s text) range = text_octets text range.1
has_octets (does.Pass n s) range = tt
has_octets (does.Lose n s) range = tt
has_octets (does.Repeat n s) range = tt
has_octets (does.Alter n s place mask) range = tt
has_octets (does.Put n s text) range = tt
has_octets (does.Copy n s m t) range = tt
has_octets (does.Take n s) range = tt
has_octets (does.Release n s sub) range = tt
has_octets (does.Tick moment) range = tt
has_octets (does.Drain n most) range = tt

-- the steps of a file fit their fields
steps_fit : (l : Level) (xs : List Numbered) → AreReadableSteps l xs → AllFit (map (λ (x : Numbered). x.step) xs)
steps_fit l [] all = tt
steps_fit l (x ∷ xs) all = ((etcs_numbers x.step all.0.range, has_octets x.step all.0.range), steps_fit l xs all.1)

-- the settings that a file chooses are in the ranges of its level
fits_level : (l : Level) (settings : Settings) → AllAllowed settings → IsNarrow l settings → FitsLevel l settings
fits_level level.Safe settings allowed narrow = allowed
fits_level level.Link settings allowed narrow = allowed
fits_level level.LinkSr settings allowed narrow = (allowed, leb-true (2 * settings.window) settings.modulo narrow)
fits_level level.Full settings allowed narrow = allowed

-- the first steps of a file that are done are so of the list of its steps
first_done : (s : Scenario) (count k : ℕ) → k ≤ count → AreDone s count → AllDone (plan_of s) (steps_of s) k
first_done s count k le done j y lt at =
    let step : Numbered → Step = λ n. n.step in
    let mapped : slice_get (steps_of s) j ≡ option_map step (slice_get s.steps j) = slice_get-map step s.steps j in
    elim (slice_get_cases s.steps j).1 [
      | inl here ↦
          let is : here.0.step ≡ y = same_Some here.0.step y (sym (mapped ∙ ap (option_map step) here.2) ∙ at) in
          subst (λ (x : Step). fault_behind_first s j x ≡ None) is (done j here.0 (omega (arith, lt, le)) here.2)
      | inr past ↦ absurd (none-some y (sym (mapped ∙ ap (option_map step) past.1) ∙ at))
    ]

pub drills_hold : HoldsAlways → DrillsHold
drills_hold law s readable count done k le =
    law (plan_of s) (steps_of s) k (fits_level s.level s.settings readable.settings readable.narrow) (steps_fit s.level s.steps readable.steps) (first_done s count k le done)

pub bulk_holds : HoldsAlways → BulkHolds
bulk_holds law seed count done all k le =
    law bulk_plan (steps_of_bulk seed count) k usual_allowed (bulk_fits seed count) (λ j s lt is. all j s (omega (arith, lt, le)) is)
