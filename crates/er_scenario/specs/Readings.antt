-- Representation: what the reading calls answer, want of memory aside; no claim rests on it.
use Rattle.std.specs.Prelude.{ℕ, ◌==◌, List, length, Result, Ok}
use Rattle.er_base.specs.declared.why.Why.{Why}
use Rattle.er_base.specs.declared.why.Why.TheVariants as why
use Rattle.er_base.specs.declared.line_fault.LineFault.{LineFault}
use Rattle.er_base.specs.declared.line_fault.LineFault.TheVariants as line
use Rattle.er_base.specs.declared.text_fault.TextFault.{TextFault}
use Rattle.er_base.specs.declared.text_fault.TextFault.TheVariants as text
use Rattle.er_base.specs.Arguments.{◌>>=◌}
use Rattle.er_base.specs.LineFaults.{demand, values_of}
use Rattle.er_settings.specs.Ranges.{AllAllowed}
use Rattle.er_scenario.specs.declared.step.Step.{Step}
use Rattle.er_scenario.specs.declared.step_name.StepName.{StepName}
use Rattle.er_scenario.specs.declared.said.Said.{Said}
use Rattle.er_scenario.specs.declared.said.Said.TheVariants.{Chooses, Does}
use Rattle.er_scenario.specs.declared.level.Level.{Level}
use Rattle.er_scenario.specs.Choices.{IsNarrow}
use Rattle.er_scenario.specs.Texts.{IsReadableStep}
use Rattle.er_scenario.specs.Table.{argument_of, kinds_of, levels_of, has_level, step_made}

-- the step of a line whose first word names it and that has as many words as it wants
abbrev pub step_said : StepName → List (List ℕ) → Result Step Why
step_said name words = values_of argument_of (kinds_of name) words >>= λ values. Ok (step_made name values)

-- the step of a line whose first word names it: as many words as it wants, then a line of the level, then its arguments
abbrev pub step_of : Level → StepName → List (List ℕ) → Result Step Why
step_of level name words =
    demand (length words == length (kinds_of name)) why.Count >>= λ _. (demand (has_level (levels_of name) level) why.Level >>= λ _. step_said name words)

-- where the text is faulty, where its line was
abbrev pub scenario_text_fault : ℕ → LineFault → TextFault
scenario_text_fault number (line.Refused why) = text.At number why
scenario_text_fault number (line.NoMemory want) = text.NoMemory want

-- what a line says is in its range, and a step is one of the level whose line is read
abbrev pub IsWellSaid : Level → Said → Type 0
IsWellSaid level (Chooses choices) = AllAllowed choices.settings × IsNarrow level choices.settings
IsWellSaid level (Does step) = IsReadableStep level step
