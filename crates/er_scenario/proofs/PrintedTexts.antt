-- The text of a scenario is read as the same scenario, line numbers aside.
use Rattle.std.proofs.Common.{◌≡◌, ℕ, ◌≤◌, false, List, length, Some, Ok, refl, ap, ◌∙◌, codes}
use Rattle.std.proofs.lemmas.Bool.{le-ltb}
use Rattle.er_base.specs.LineTexts.{IsLine, AreLines, lines_text, rows_from}
use Rattle.er_base.specs.Lines.{lines_of, rows_of}
use Rattle.er_settings.specs.Laws.{AllowedAreBounded}
use Rattle.er_scenario.specs.declared.level.Level.{Level}
use Rattle.er_scenario.specs.declared.level.Level.TheVariants.{Safe, Link, Full, LinkSr}
use Rattle.er_scenario.specs.declared.scenario.Scenario.{Scenario}
use Rattle.er_scenario.specs.declared.choices.Choices.{Choices}
use Rattle.er_scenario.specs.Table.{level_word, level_named}
use Rattle.er_scenario.specs.Files.{scenario_in, scenario_of}
use Rattle.er_scenario.specs.Laws.{PrintedIsRead}
use Rattle.er_scenario.specs.Texts.{CanBeRead, header_words, words_of_numbered_steps, words_printed, text_printed}
use Rattle.er_scenario.proofs.PrintedArguments.{Laws}
use Rattle.er_scenario.proofs.PrintedChoices.{small, choices_read, choices_are_lines, lines_append, before_steps}
use Rattle.er_scenario.proofs.PrintedSteps.{solid_codes, steps_are_lines, done_from, steps_read, same_steps}

header_line : (level : Level) → IsLine (header_words level)
header_line Safe = (solid_codes (codes "drill") refl refl, (solid_codes (codes "1") refl refl, (solid_codes (codes "safe") refl refl, tt)))
header_line Link = (solid_codes (codes "drill") refl refl, (solid_codes (codes "1") refl refl, (solid_codes (codes "link") refl refl, tt)))
header_line Full = (solid_codes (codes "drill") refl refl, (solid_codes (codes "1") refl refl, (solid_codes (codes "full") refl refl, tt)))
header_line LinkSr = (solid_codes (codes "drill") refl refl, (solid_codes (codes "1") refl refl, (solid_codes (codes "link-sr") refl refl, tt)))

-- the word of a level names it
level_is_read : (level : Level) → level_named (level_word level) ≡ Some level
level_is_read Safe = refl
level_is_read Link = refl
level_is_read Full = refl
level_is_read LinkSr = refl

-- a text that isn't too long
short : (text : List ℕ) → length text ≤ 16777216 → scenario_of text ≡ scenario_in (rows_of 0 (lines_of text))
unfolding scenario_of
short text h = rw (le-ltb 16777216 (length text) h) refl

-- the scenario that is read: the same, but for its line numbers
abbrev again : Scenario → Scenario
again scenario =
    record {
      level = scenario.level;
      settings = scenario.settings;
      show = scenario.show;
      steps = done_from (before_steps scenario.level scenario.settings scenario.show) scenario.steps;
    }

lines_read : (laws : Laws) (bounded : AllowedAreBounded) (scenario : Scenario) → CanBeRead scenario
    → scenario_in (rows_from 0 (words_printed scenario)) ≡ Ok (again scenario)
lines_read laws bounded scenario h =
    let n : ℕ = before_steps scenario.level scenario.settings scenario.show in
    let c : Choices = record { settings = scenario.settings; show = scenario.show } in
    let fits = small scenario.settings h.settings (bounded scenario.settings h.settings) in
    rw (level_is_read scenario.level, choices_read laws scenario.level scenario.settings scenario.show (words_of_numbered_steps scenario.steps) h.settings h.narrow fits, steps_read laws scenario.level false c n scenario.steps h.steps)
    refl

all_lines : (laws : Laws) (bounded : AllowedAreBounded) (scenario : Scenario) → CanBeRead scenario
    → AreLines (words_printed scenario)
all_lines laws bounded scenario h = (
  header_line scenario.level,
  lines_append _ _
      (choices_are_lines laws scenario.level scenario.settings scenario.show (small scenario.settings h.settings (bounded scenario.settings h.settings)))
      (steps_are_lines laws scenario.level scenario.steps h.steps),
)

text_read : (laws : Laws) (bounded : AllowedAreBounded) (scenario : Scenario) → CanBeRead scenario
    → length (text_printed scenario) ≤ 16777216 → scenario_of (text_printed scenario) ≡ Ok (again scenario)
unfolding text_printed
text_read laws bounded scenario h fits =
    short (lines_text (words_printed scenario)) fits
    ∙ ap (scenario_in) (laws.lines 0 (words_printed scenario) (all_lines laws bounded scenario h))
    ∙ lines_read laws bounded scenario h

pub printed_is_read : Laws → AllowedAreBounded → PrintedIsRead
printed_is_read laws bounded scenario h fits =
    record {
      again = again scenario;
      read = text_read laws bounded scenario h fits;
      same =
          record { level = refl; settings = refl; show = refl; steps = same_steps (before_steps scenario.level scenario.settings scenario.show) scenario.steps };
    }
