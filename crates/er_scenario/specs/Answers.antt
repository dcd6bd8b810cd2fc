-- What reading a drill file answers.
use Rattle.std.specs.Prelude.{◌≡◌, Result, Ok, Err}
use Rattle.er_base.specs.declared.text_fault.TextFault.{TextFault}
use Rattle.er_base.specs.declared.text_fault.TextFault.TheVariants.{At, NoMemory}
use Rattle.er_scenario.specs.declared.scenario.Scenario.{Scenario}

-- the answer is what the file says, but for want of memory
abbrev pub AnswersAsScenarioSays : Result Scenario TextFault → Result Scenario TextFault → Type 0
AnswersAsScenarioSays (Ok scenario) said = said ≡ Ok scenario
AnswersAsScenarioSays (Err (At line why)) said = said ≡ Err (At line why)
AnswersAsScenarioSays (Err (NoMemory want)) said = Unit {0}
