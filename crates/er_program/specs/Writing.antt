-- Contract: what the parts of a run write to the sink, and how they end.
use Rattle.std.specs.Prelude.{◌≡◌, ◌⊎◌, ℕ, ◌≤◌, List, [], Option, Some, None, Result, Ok, Err}
use Rattle.er_base.specs.declared.text_fault.TextFault.{TextFault}
use Rattle.er_scenario.specs.declared.scenario.Scenario.{Scenario}
use Rattle.er_scenario.specs.Files.{scenario_of}
use Rattle.er_scenario.specs.Texts.{CanBeRead}
use Rattle.link_trait.specs.Outside.{Grew, GrewPart, Rose}
use Rattle.er_program.specs.Commands.{Command, Misused, Drill, Bits, Migrate, Replay, Check, Audit, Bulk, Serve, Call}
use Rattle.er_statuses.specs.LastLines.{usage_line}
use Rattle.er_statuses.specs.Answers.{Answer, Files}
use Rattle.er_program.specs.Answers.{IsDrillAnswer, IsScenarioAnswer, IsFileAnswer, IsBitsAnswer, AreDone, lines_of_first, IsMigrateAnswer, IsKeyedAnswer}
use Rattle.er_program.specs.Answers.{IsReplayOfFile, IsCheckOfFile, IsAuditOfFile, IsBulkAnswer}
use Rattle.er_program.specs.AuditRuns.{FirstAuditText}
use Rattle.er_program.specs.Runs.{SpellsScenario, FirstVerdictLines, FirstEventLines}
use Rattle.er_statuses.specs.declared.status.Status.{Status}
use Rattle.er_statuses.specs.declared.stop.Stop.{Stop}
use Rattle.er_statuses.specs.declared.stop.Stop.TheVariants as stop

-- ---- a drill

-- some first steps were done, their lines were written, and nothing else
pub record FirstSteps (s : Scenario) (before now : Option (List ℕ)) : Type 0 where
  pub count : ℕ
  pub are_done : AreDone s count
  pub grew : Grew before now (lines_of_first s count)

-- a drill wrote its answer, a beginning of it where the sink failed, or the lines of some first steps where memory ran out
pub record GaveDrill (s : Scenario) (before now : Option (List ℕ)) (f g status : ℕ) : Type 0 where
  pub answer : Answer
  pub is : IsDrillAnswer s answer
  pub stated : status ≡ answer.status
  pub printed : Grew before now answer.text
  pub later : f ≤ g

pub record BrokeDrill (s : Scenario) (before now : Option (List ℕ)) (f g : ℕ) : Type 0 where
  pub answer : Answer
  pub is : IsDrillAnswer s answer
  pub part : GrewPart before now answer.text
  pub rose : Rose f g

abbrev pub Drills : Scenario → Option (List ℕ) → Option (List ℕ) → ℕ → ℕ → Result Status Stop → Type 0
Drills s before now f g (Ok status) = GaveDrill s before now f g status.0
Drills s before now f g (Err stop.Sink) = BrokeDrill s before now f g
Drills s before now f g (Err (stop.NoMemory want)) = FirstSteps s before now × (f ≤ g)

-- ---- a file

-- what a file spells is in its ranges
abbrev pub SpellsScenarioInRange : Result Scenario TextFault → Type 0
SpellsScenarioInRange (Ok s) = CanBeRead s
SpellsScenarioInRange (Err fault) = Unit {0}

-- lines of first steps, where the file spells a scenario
abbrev pub WritesFirst : Result Scenario TextFault → Option (List ℕ) → Option (List ℕ) → Type 0
WritesFirst (Ok s) before now = FirstSteps s before now
WritesFirst (Err fault) before now = ⊥

-- a file was read and its answer was given; where memory ran out, nothing was written before the first step
pub record GaveFile (read : Result Scenario TextFault) (before now : Option (List ℕ)) (f g status : ℕ) : Type 0 where
  pub readable : SpellsScenarioInRange read
  pub answer : Answer
  pub is : IsScenarioAnswer read answer
  pub stated : status ≡ answer.status
  pub printed : Grew before now answer.text
  pub later : f ≤ g

pub record BrokeFile (read : Result Scenario TextFault) (before now : Option (List ℕ)) (f g : ℕ) : Type 0 where
  pub readable : SpellsScenarioInRange read
  pub answer : Answer
  pub is : IsScenarioAnswer read answer
  pub part : GrewPart before now answer.text
  pub rose : Rose f g

pub record SpentFile (read : Result Scenario TextFault) (before now : Option (List ℕ)) (f g : ℕ) : Type 0 where
  pub first : Grew before now [] ⊎ (SpellsScenarioInRange read × WritesFirst read before now)
  pub later : f ≤ g

abbrev pub EndsFile : Result Scenario TextFault → Option (List ℕ) → Option (List ℕ) → ℕ → ℕ → Result Status Stop → Type 0
EndsFile read before now f g (Ok s) = GaveFile read before now f g s.0
EndsFile read before now f g (Err stop.Sink) = BrokeFile read before now f g
EndsFile read before now f g (Err (stop.NoMemory want)) = SpentFile read before now f g

-- ---- the words

abbrev pub HasReadable : Option (List ℕ) → Type 0
HasReadable None = Unit {0}
HasReadable (Some file) = SpellsScenarioInRange (scenario_of file)

-- the answer to a file word, and what its file spells is in its ranges
pub record IsReadAnswer (name : List ℕ) (files : Files) (c d : ℕ) (a : Answer) : Type 0 where
  pub answer : IsFileAnswer name files c d a
  pub readable : HasReadable answer.fetched

abbrev pub IsGivenAnswer : Command → Files → ℕ → ℕ → Answer → Type 0
IsGivenAnswer Misused files c d a = a ≡ record { status = 1; text = usage_line }
IsGivenAnswer (Drill name) files c d a = IsReadAnswer name files c d a
IsGivenAnswer (Bits name) files c d a = IsBitsAnswer name files c d a
IsGivenAnswer (Migrate keys) files c d a = IsMigrateAnswer keys files c d a
IsGivenAnswer (Replay keys trace) files c d a = IsKeyedAnswer IsReplayOfFile keys trace files c d a
IsGivenAnswer (Check keys trace) files c d a = IsKeyedAnswer IsCheckOfFile keys trace files c d a
IsGivenAnswer (Audit keys tap ends) files c d a = IsKeyedAnswer (IsAuditOfFile ends) keys tap files c d a
IsGivenAnswer (Bulk seed count) files c d a = IsBulkAnswer seed count a
IsGivenAnswer (Serve keys address rbc turns) files c d a = ⊥
IsGivenAnswer (Call keys address engine rbc turns) files c d a = ⊥

-- the words were answered
pub record Finished (command : Command) (files : Files) (c d : ℕ) (before now : Option (List ℕ)) (f g status : ℕ) : Type 0 where
  pub answer : Answer
  pub is : IsGivenAnswer command files c d answer
  pub stated : status ≡ answer.status
  pub printed : Grew before now answer.text
  pub later : f ≤ g

-- a write failed
pub record Broken (command : Command) (files : Files) (c d : ℕ) (before now : Option (List ℕ)) (f g : ℕ) : Type 0 where
  pub answer : Answer
  pub is : IsGivenAnswer command files c d answer
  pub part : GrewPart before now answer.text
  pub rose : Rose f g

-- the lines of some first steps of the drill that the file spells
pub record StepsBegun (name : List ℕ) (files : Files) (text : List ℕ) : Type 0 where
  pub scenario : Scenario
  pub spells : SpellsScenario name files scenario
  pub readable : CanBeRead scenario
  pub count : ℕ
  pub are_done : AreDone scenario count
  pub is : text ≡ lines_of_first scenario count

abbrev pub IsOutputBeginning : Command → Files → List ℕ → Type 0
IsOutputBeginning Misused files text = text ≡ []
IsOutputBeginning (Drill name) files text = (text ≡ []) ⊎ StepsBegun name files text
IsOutputBeginning (Bits name) files text = (text ≡ []) ⊎ FirstVerdictLines name files text
IsOutputBeginning (Migrate keys) files text = text ≡ []
IsOutputBeginning (Replay keys trace) files text = (text ≡ []) ⊎ FirstEventLines keys trace files text
IsOutputBeginning (Check keys trace) files text = text ≡ []
IsOutputBeginning (Audit keys tap ends) files text = (text ≡ []) ⊎ FirstAuditText ends keys tap files text
IsOutputBeginning (Bulk seed count) files text = text ≡ []
IsOutputBeginning (Serve keys address rbc turns) files text = ⊥
IsOutputBeginning (Call keys address engine rbc turns) files text = ⊥

-- memory ran out
pub record Exhausted (command : Command) (files : Files) (before now : Option (List ℕ)) (f g : ℕ) : Type 0 where
  pub text : List ℕ
  pub first : IsOutputBeginning command files text
  pub printed : Grew before now text
  pub later : f ≤ g

abbrev pub EndsCommand : Command → Files → ℕ → ℕ → Option (List ℕ) → Option (List ℕ) → ℕ → ℕ → Result Status Stop → Type 0
EndsCommand command files c d before now f g (Ok s) = Finished command files c d before now f g s.0
EndsCommand command files c d before now f g (Err stop.Sink) = Broken command files c d before now f g
EndsCommand command files c d before now f g (Err (stop.NoMemory want)) = Exhausted command files before now f g
