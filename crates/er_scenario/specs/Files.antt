-- A drill file (this profile): the header, then `set` lines, then steps. What a file says, or its first faulty line with its
-- first fault.
use Rattle.std.specs.Prelude.{ℕ, ◌&&◌, nat_lt, Bool, true, false, if◌then◌else◌, List, [], ◌∷◌, length, Option, Some, None, Result, Ok, Err, codes}
use Rattle.std.specs.Option.{option_map}
use Rattle.std.specs.Str.{bytes_eq}
use Rattle.er_base.specs.declared.why.Why.{Why}
use Rattle.er_base.specs.declared.why.Why.TheVariants.{Header, Word, Long}
use Rattle.er_base.specs.declared.text_fault.TextFault.{TextFault}
use Rattle.er_base.specs.declared.text_fault.TextFault.TheVariants.{At}
use Rattle.er_base.specs.Arguments.{◌>>=◌}
use Rattle.er_base.specs.LineFaults.{Table, Values, line_read}
use Rattle.er_base.specs.Lines.{Row, rows_of, lines_of}
use Rattle.er_scenario.specs.declared.level.Level.{Level}
use Rattle.er_scenario.specs.declared.step_name.StepName.{StepName}
use Rattle.er_scenario.specs.declared.numbered.Numbered.{Numbered}
use Rattle.er_scenario.specs.declared.scenario.Scenario.{Scenario}
use Rattle.er_scenario.specs.declared.choices.Choices.{Choices}
use Rattle.er_scenario.specs.declared.said.Said.{Said}
use Rattle.er_scenario.specs.declared.said.Said.TheVariants.{Chooses, Does}
use Rattle.er_scenario.specs.Table.{ScenarioArgumentKind, AnyWord, Meaning, kinds_of, levels_of, has_level, level_named, step_named, argument_of, step_made}
use Rattle.er_scenario.specs.Choices.{chosen_by, default_choices}

-- the lines behind the header: `set` lines, and those that are steps
pub data ScenarioLine : Type 0 where
  SetLine : ScenarioLine
  StepLine : StepName → ScenarioLine

-- the line that a first word begins, where it begins one
abbrev pub line_named : List ℕ → Option ScenarioLine
line_named word = if bytes_eq word (codes "set") then Some SetLine else option_map StepLine (step_named word)

-- the kinds of its arguments: NAME and VALUE of a `set` are looked at behind all else
abbrev pub line_kinds : ScenarioLine → List ScenarioArgumentKind
line_kinds SetLine = AnyWord ∷ AnyWord ∷ []
line_kinds (StepLine name) = kinds_of name

-- a `set` is one of all levels
abbrev pub line_has_level : Level → ScenarioLine → Bool
line_has_level level SetLine = true
line_has_level level (StepLine name) = has_level (levels_of name) level

-- a `set` is late where a line of another word stands before it
abbrev pub line_is_late : Bool → ScenarioLine → Bool
line_is_late late SetLine = late
line_is_late late (StepLine name) = false

-- the table of a file's lines, at its level, where a line of another word than `set` stands before or doesn't
abbrev pub table : Level → Bool → Table ScenarioLine ScenarioArgumentKind Meaning
table level late =
    record {
      line_named = line_named;
      kinds_of = line_kinds;
      read = argument_of;
      is_of_level = line_has_level level;
      is_late = line_is_late late;
    }

-- what a line's arguments mean: new choices, or a step
abbrev pub line_means : Level → Choices → (line : ScenarioLine) → Values Meaning (line_kinds line) → Result Said Why
line_means level choices SetLine (name, (value, end)) = chosen_by level choices name value >>= λ new. Ok (Chooses new)
line_means level choices (StepLine name) values = Ok (Does (step_made name values))

-- what a line says, or its first fault
unfoldable pub line_says : Level → Bool → Choices → List (List ℕ) → Result Said Why
line_says level late choices [] = Err Word
line_says level late choices (name ∷ words) =
    line_read (table level late) name words >>= λ read. line_means level choices read.0 read.1

-- what the lines behind the header say: the choices in the end, and the steps
pub record Body : Type 0 where
  pub choices : Choices
  pub steps : List Numbered

-- a step before those that follow it
abbrev pub with_step : Numbered → Result Body TextFault → Result Body TextFault
with_step step (Err fault) = Err fault
with_step step (Ok body) = Ok (record body { steps = step ∷ body.steps })

-- a line before those that follow it, which are read with its choices, or behind its step: the first faulty line counts
abbrev pub before_rest : ℕ → Result Said Why → (Choices → Result Body TextFault) → Result Body TextFault → Result Body TextFault
before_rest number (Err why) chosen done = Err (At number why)
before_rest number (Ok (Chooses choices)) chosen done = chosen choices
before_rest number (Ok (Does step)) chosen done = with_step (record { line = number; step = step }) done

-- all lines behind the header, where lines before them chose and a step stands before them or doesn't
unfoldable pub scenario_body_of : Level → Bool → Choices → List Row → Result Body TextFault
scenario_body_of level late choices [] = Ok (record { choices = choices; steps = [] })
scenario_body_of level late choices (row ∷ rows) =
    before_rest row.number (line_says level late choices row.words) (λ new. scenario_body_of level late new rows)
    (scenario_body_of level true choices rows)

-- a scenario of a level
abbrev pub scenario_from : Level → Result Body TextFault → Result Scenario TextFault
scenario_from level (Err fault) = Err fault
scenario_from level (Ok body) =
    Ok (record { level = level; settings = body.choices.settings; show = body.choices.show; steps = body.steps })

-- the level of the header `drill 1 LEVEL`
abbrev pub level_of : List (List ℕ) → Option Level
level_of [] = None
level_of (drill ∷ []) = None
level_of (drill ∷ version ∷ []) = None
level_of (drill ∷ version ∷ level ∷ []) =
    if bytes_eq drill (codes "drill") && bytes_eq version (codes "1") then level_named level else None
level_of (drill ∷ version ∷ level ∷ word ∷ words) = None

-- the header, then the lines behind it
abbrev pub behind_header : ℕ → Option Level → List Row → Result Scenario TextFault
behind_header number None rows = Err (At number Header)
behind_header number (Some level) rows = scenario_from level (scenario_body_of level false (default_choices level) rows)

-- the first line that isn't skipped is the header; a file without such a line is faulty at line 1
abbrev pub scenario_in : List Row → Result Scenario TextFault
scenario_in [] = Err (At 1 Header)
scenario_in (header ∷ rows) = behind_header header.number (level_of header.words) rows

-- what a file says, or its first fault; a file has at most 16,777,216 octets, and a longer one is faulty as a whole
unfoldable pub scenario_of : List ℕ → Result Scenario TextFault
scenario_of text =
    if nat_lt 16777216 (length text) then Err (At 0 Long) else scenario_in (rows_of 0 (lines_of text))
