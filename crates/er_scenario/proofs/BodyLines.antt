-- What the lines so far chose and did, before those that are left.
use Rattle.std.proofs.Common.{◌≡◌, Bool, true, List, [], ◌∷◌, ◌++◌, Result, Ok, Err, refl, ap, sym, ◌∙◌, append_assoc, append-nil}
use Rattle.er_base.specs.declared.why.Why.{Why}
use Rattle.er_base.specs.declared.line_fault.LineFault.{LineFault}
use Rattle.er_base.specs.declared.line_fault.LineFault.TheVariants as line
use Rattle.er_base.specs.declared.text_fault.TextFault.{TextFault}
use Rattle.er_base.specs.declared.text_fault.TextFault.TheVariants.{At}
use Rattle.er_base.specs.Lines.{Row}
use Rattle.er_base.specs.Rows.{Refuses}
use Rattle.er_scenario.specs.declared.level.Level.{Level}
use Rattle.er_scenario.specs.declared.numbered.Numbered.{Numbered}
use Rattle.er_scenario.specs.declared.choices.Choices.{Choices}
use Rattle.er_scenario.specs.declared.said.Said.TheVariants.{Chooses, Does}
use Rattle.er_scenario.specs.declared.step.Step.{Step}
use Rattle.er_scenario.specs.Answers.{AnswersAsScenarioSays}
use Rattle.er_scenario.specs.Files.{Body, with_step, line_says, scenario_body_of, scenario_from}
use Rattle.er_scenario.specs.Readings.{scenario_text_fault}
use Rattle.er_scenario.specs.Texts.{IsReadableStep, AreReadableSteps}

-- the steps so far before those of the lines that are left
abbrev pub behind : List Numbered → Result Body TextFault → Result Body TextFault
behind front (Err fault) = Err fault
behind front (Ok body) = Ok (record body { steps = front ++ body.steps })

pub behind_none : (read : Result Body TextFault) → behind [] read ≡ read
behind_none (Err fault) = refl
behind_none (Ok body) = refl

-- one line more, which chooses
pub one_choice : (level : Level) (late : Bool) (choices new : Choices) (row : Row) (rows : List Row)
    → line_says level late choices row.words ≡ Ok (Chooses new)
    → scenario_body_of level late choices (row ∷ rows) ≡ scenario_body_of level late new rows
unfolding scenario_body_of
one_choice level late choices new row rows e = rw e refl

step_more : (front : List Numbered) (step : Numbered) (rest : Result Body TextFault)
    → behind front (with_step step rest) ≡ behind (front ++ step ∷ []) rest
step_more front step (Err fault) = refl
step_more front step (Ok body) = rw (append_assoc front (step ∷ []) body.steps) refl

-- one line more, which is a step
pub one_step : (level : Level) (late : Bool) (choices : Choices) (front : List Numbered) (step : Step) (row : Row) (rows : List Row)
    → line_says level late choices row.words ≡ Ok (Does step)
    → behind front (scenario_body_of level late choices (row ∷ rows))
    ≡ behind (front ++ record { line = row.number; step = step } ∷ []) (scenario_body_of level true choices rows)
unfolding scenario_body_of
one_step level late choices front step row rows e =
    rw e (step_more front (record { line = row.number; step = step }) (scenario_body_of level true choices rows))

-- a line that is refused
pub one_refused : (level : Level) (late : Bool) (choices : Choices) (front : List Numbered) (why : Why) (row : Row) (rows : List Row)
    → line_says level late choices row.words ≡ Err why
    → behind front (scenario_body_of level late choices (row ∷ rows)) ≡ Err (At row.number why)
unfolding scenario_body_of
one_refused level late choices front why row rows e = rw e refl

-- and what is answered then
pub refused_answers : (level : Level) (late : Bool) (choices : Choices) (front : List Numbered) (fault : LineFault) (row : Row) (rows : List Row)
    (read : Result Body TextFault) → Refuses fault (line_says level late choices row.words)
    → behind front (scenario_body_of level late choices (row ∷ rows)) ≡ read
    → AnswersAsScenarioSays (Err (scenario_text_fault row.number fault)) (scenario_from level read)
refused_answers level late choices front (line.Refused why) row rows read refused all =
    ap (scenario_from level) (sym all ∙ one_refused level late choices front why row rows refused)
refused_answers level late choices front (line.NoMemory want) row rows read refused all = tt

-- no line is left
pub none_left : (level : Level) (late : Bool) (choices : Choices) (front : List Numbered) (read : Result Body TextFault)
    → behind front (scenario_body_of level late choices []) ≡ read
    → scenario_from level read ≡ Ok (record { level = level; settings = choices.settings; show = choices.show; steps = front })
unfolding scenario_body_of
none_left level late choices front read all =
    ap (scenario_from level) (sym all)
    ∙ ap (λ (steps : List Numbered). Ok (record { level = level; settings = choices.settings; show = choices.show; steps = steps })) (append-nil front)

-- one step more that can be read
pub readable_more : (level : Level) (front : List Numbered) (step : Numbered) → AreReadableSteps level front
    → IsReadableStep level step.step → AreReadableSteps level (front ++ step ∷ [])
readable_more level [] step h k = (k, tt)
readable_more level (first ∷ front) step h k = (h.0, readable_more level front step h.1 k)
