-- A line whose first word names a step says that step.
use Rattle.std.proofs.Common.{◌≡◌, ◌==◌, ℕ, Bool, false, List, ◌∷◌, length, Some, Result, Ok, Err, inl, inr, refl, ap, ◌∙◌, codes}
use Rattle.std.specs.Str.{bytes_eq}
use Rattle.std.proofs.lemmas.Bool.{cases_Bool}
use Rattle.er_base.specs.declared.why.Why.{Why}
use Rattle.er_base.specs.declared.line_fault.LineFault.{LineFault}
use Rattle.er_base.specs.declared.line_fault.LineFault.TheVariants as line
use Rattle.er_base.specs.Arguments.{◌>>=◌}
use Rattle.er_base.specs.LineFaults.{Values, values_of}
use Rattle.er_base.specs.Rows.{Refuses}
use Rattle.er_scenario.specs.declared.level.Level.{Level}
use Rattle.er_scenario.specs.declared.choices.Choices.{Choices}
use Rattle.er_scenario.specs.declared.said.Said.TheVariants.{Does}
use Rattle.er_scenario.specs.declared.step.Step.{Step}
use Rattle.er_scenario.specs.declared.step_name.StepName.{StepName}
use Rattle.er_scenario.specs.Files.{ScenarioLine, StepLine, line_kinds, line_means, line_says}
use Rattle.er_scenario.specs.Readings.{step_of}
use Rattle.er_scenario.specs.Table.{Meaning, argument_of, kinds_of, levels_of, has_level, step_named, step_made}

-- the values of its arguments, of this line
abbrev of_line : (name : StepName) → Values Meaning (kinds_of name) → Result ((line : ScenarioLine) × Values Meaning (line_kinds line)) Why
of_line name values = Ok (StepLine name, values)

-- its arguments, where they have values
values_mean : (level : Level) (choices : Choices) (name : StepName) (values : Result (Values Meaning (kinds_of name)) Why)
    → ((values >>= of_line name) >>= λ read. line_means level choices read.0 read.1)
    ≡ ((values >>= λ these. Ok (step_made name these)) >>= λ step. Ok (Does step))
values_mean level choices name (Ok values) = refl
values_mean level choices name (Err why) = refl

pub said_step : (level : Level) (late : Bool) (choices : Choices) (first : List ℕ) (words : List (List ℕ)) (name : StepName)
    → bytes_eq first (codes "set") ≡ false → step_named first ≡ Some name
    → line_says level late choices (first ∷ words) ≡ (step_of level name words >>= λ step. Ok (Does step))
unfolding line_says
said_step level late choices first words name other named =
    rw (other, named)
    (elim (cases_Bool (length words == length (kinds_of name))) [
      | inl t ↦ rw t (elim (cases_Bool (has_level (levels_of name) level)) [
        | inl u ↦ rw u (values_mean level choices name (values_of argument_of (kinds_of name) words))
        | inr g ↦ rw g refl
      ])
      | inr f ↦ rw f refl
    ])

-- the step that was read is what the line says, and a fault is the line's
pub step_gives : (level : Level) (late : Bool) (choices : Choices) (first : List ℕ) (words : List (List ℕ)) (name : StepName) (step : Step)
    → bytes_eq first (codes "set") ≡ false → step_named first ≡ Some name → step_of level name words ≡ Ok step
    → line_says level late choices (first ∷ words) ≡ Ok (Does step)
step_gives level late choices first words name step other named is =
    said_step level late choices first words name other named ∙ ap (λ (r : Result Step Why). r >>= λ s. Ok (Does s)) is

pub fault_gives : (level : Level) (late : Bool) (choices : Choices) (first : List ℕ) (words : List (List ℕ)) (name : StepName) (fault : LineFault)
    → bytes_eq first (codes "set") ≡ false → step_named first ≡ Some name → Refuses fault (step_of level name words)
    → Refuses fault (line_says level late choices (first ∷ words))
fault_gives level late choices first words name (line.Refused why) other named is =
    said_step level late choices first words name other named ∙ ap (λ (r : Result Step Why). r >>= λ s. Ok (Does s)) is
fault_gives level late choices first words name (line.NoMemory want) other named is = tt
