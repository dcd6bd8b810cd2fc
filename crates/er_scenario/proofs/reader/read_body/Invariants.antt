-- What was chosen and done so far and what is left give what all lines give.
use Rattle.std.proofs.Common.{◌≡◌, ◌+◌, ◌≤◌, length, false}
use Rattle.er_base.specs.Lines.{lines_of, rows_of}
use Rattle.er_settings.specs.Ranges.{AllAllowed}
use Rattle.er_scenario.specs.Choices.{IsNarrow, default_choices}
use Rattle.er_scenario.specs.Files.{scenario_body_of}
use Rattle.er_scenario.specs.Texts.{AreReadableSteps}
use Rattle.er_scenario.proofs.BodyLines.{behind}
use Rattle.er_scenario.proofs.reader.read_body.Given as goal

abbrev pub invariant-loop-row : goal.invariant-loop-row
invariant-loop-row l = record {
  said : behind l.steps.items (scenario_body_of l.level l.is_late l.choices (rows_of l.number (lines_of l.rest)))
      ≡ scenario_body_of l.level false (default_choices l.level) (rows_of l.header (lines_of l.text));
  allowed : AllAllowed l.choices.settings;
  narrow : IsNarrow l.level l.choices.settings;
  readable : AreReadableSteps l.level l.steps.items;
  room : l.number + length l.rest ≤ 16777216;
}

abbrev pub decreases-loop-row : goal.decreases-loop-row
decreases-loop-row l = length l.rest
