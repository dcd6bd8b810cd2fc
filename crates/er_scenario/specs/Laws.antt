-- What the definitions of the drill file imply.
use Rattle.std.specs.Prelude.{◌≡◌, ◌≤◌, length, Ok}
use Rattle.er_scenario.specs.declared.scenario.Scenario.{Scenario}
use Rattle.er_scenario.specs.Files.{scenario_of}
use Rattle.er_scenario.specs.Texts.{CanBeRead, IsSameButLines, text_printed}

-- the text of a scenario is read as the same scenario, line numbers aside
pub record IsReadAgain (scenario : Scenario) : Type 0 where
  pub again : Scenario
  pub read : scenario_of (text_printed scenario) ≡ Ok again
  pub same : IsSameButLines again scenario

-- that holds wherever the text isn't too long
abbrev pub PrintedIsRead : Type 0
PrintedIsRead =
    (scenario : Scenario) → CanBeRead scenario → length (text_printed scenario) ≤ 16777216
    → IsReadAgain scenario
