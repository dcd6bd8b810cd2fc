-- What is claimed of a run of a command that needs no wires (this profile): what was done, what the sink got, and why it ended otherwise.
use Rattle.std.specs.Prelude.{◌≡◌, ◌⊎◌, ◌≤◌, ℕ, ◌<◌, List, [], ◌++◌, length, take, Option, Some, Result, Ok, Err, codes}
use Rattle.er_base.specs.declared.why.Why.{Why}
use Rattle.er_base.specs.declared.text_fault.TextFault.TheVariants.{At}
use Rattle.er_scenario.specs.declared.scenario.Scenario.{Scenario}
use Rattle.er_scenario.specs.Files.{scenario_of}
use Rattle.drill_model.specs.Worlds.{plan_of}
use Rattle.drill_model.specs.Texts.{drill_text}
use Rattle.drill_model.specs.Headline.{Holds}
use Rattle.link_trait.specs.Outside.{Grew, GrewPart, HasFile}
use Rattle.er_program.specs.Commands.{Command, Misused, Drill, Bits, Migrate, Replay, Check, Audit, Bulk, Serve, Call}
use Rattle.er_statuses.specs.LastLines.{memory_line, fault_line, overfull_line, why_word}
use Rattle.er_program.specs.Answers.{replay_fault_line, IsAnswer, IsScenarioAnswer, FirstFault, AreDone, first_steps, lines_of_first, fault_answer}
use Rattle.er_program.specs.Answers.{IsKeysAnswer, IsTraceAnswer, IsBulkAnswer}
use Rattle.er_statuses.specs.Answers.{Answer, HasFetched, Files, keys_answer}
use Rattle.er_program.specs.BitTexts.{most_line_octets, verdict_lines, verdicts_in, bits_text}
use Rattle.er_program.specs.BulkTexts.{bulk_plan, steps_of_bulk, totals_of_bulk, totals_line, FirstOverfull}
use Rattle.drill_model.specs.Faults.{AllDone}
use Rattle.safety_automaton.specs.Keys.{KmacEntry, key_at}
use Rattle.er_trace.specs.declared.entry.Entry.{Entry as TraceEntry}
use Rattle.er_trace.specs.declared.trace.Trace.{Trace}
use Rattle.er_trace.specs.Files.{trace_of}
use Rattle.trace_model.specs.declared.replay_fault.ReplayFault.{ReplayFault}
use Rattle.trace_model.specs.Printed.{text_of_trace}
use Rattle.trace_model.specs.Replays.{AreTaken, HasFirstRefusedEvent}
use Rattle.key_store.specs.declared.key_file_fault.KeyFileFault.{KeyFileFault}
use Rattle.key_store.specs.KeyFiles.{keys_of}
use Rattle.er_program.specs.AuditRuns.{FirstAuditText}

-- ---- what holds of a world

-- at every moment of the first steps
abbrev pub HoldsInDrill : Scenario → ℕ → Type 0
HoldsInDrill s count = (k : ℕ) → k ≤ count → Holds (plan_of s) (first_steps s k)

-- the file of that name spells this scenario
pub record SpellsScenario (name : List ℕ) (files : Files) (scenario : Scenario) : Type 0 where
  pub file : List ℕ
  pub stands : HasFile files name file
  pub spelled : scenario_of file ≡ Ok scenario

-- ---- status 0

-- the file of that name spells a scenario, its steps are all done, and its text was written
pub record Drilled (name : List ℕ) (files : Files) (before now : Option (List ℕ)) : Type 0 where
  pub scenario : Scenario
  pub spells : SpellsScenario name files scenario
  pub are_done : AreDone scenario (length scenario.steps)
  pub printed : Grew before now (drill_text scenario)
  pub holds : HoldsInDrill scenario (length scenario.steps)

-- the file of that name is short enough, and what it is read as was written
pub record BitsRead (name : List ℕ) (files : Files) (before now : Option (List ℕ)) : Type 0 where
  pub file : List ℕ
  pub stands : HasFile files name file
  pub short : length file ≤ most_line_octets
  pub printed : Grew before now (bits_text file)

-- the file of that name is a key file, and one that has its entries, one by one in order, was written
pub record Migrated (name : List ℕ) (files : Files) (before now : Option (List ℕ)) : Type 0 where
  pub file : List ℕ
  pub stands : HasFile files name file
  pub entries : List KmacEntry
  pub spelled : keys_of file ≡ Ok entries
  pub text : List ℕ
  pub printed : Grew before now text
  pub same : keys_of text ≡ Ok entries

-- the file of the first name is a key file with these entries, and that of the second one spells this trace
pub record SpellTrace (keys name : List ℕ) (files : Files) (entries : List KmacEntry) (trace : Trace) : Type 0 where
  pub key_file : List ℕ
  pub keys_stand : HasFile files keys key_file
  pub keys_spelled : keys_of key_file ≡ Ok entries
  pub file : List ℕ
  pub stands : HasFile files name file
  pub spelled : trace_of file ≡ Ok trace

-- the events of the trace are all taken, and their printed text was written
pub record Replayed (keys name : List ℕ) (files : Files) (before now : Option (List ℕ)) : Type 0 where
  pub entries : List KmacEntry
  pub trace : Trace
  pub spell : SpellTrace keys name files entries trace
  pub taken : AreTaken trace.settings (key_at entries) trace.entries
  pub written : Grew before now (text_of_trace trace.settings (key_at entries) trace.entries)

-- what is claimed of a world holds at every moment of the first steps of a bulk run
abbrev pub HoldsInBulk : (seed count : ℕ) → (done : ℕ) → Type 0
HoldsInBulk seed count done = (k : ℕ) → k ≤ done → Holds bulk_plan (take k (steps_of_bulk seed count))

-- and so at every moment of the steps that are done, however many
abbrev pub HoldsWhereDone : (seed count : ℕ) → Type 0
HoldsWhereDone seed count = (done : ℕ) → AllDone bulk_plan (steps_of_bulk seed count) done → HoldsInBulk seed count done

-- the steps of a bulk run are all done, and their totals were written
pub record BulkCounted (seed count : ℕ) (before now : Option (List ℕ)) : Type 0 where
  pub are_done : AllDone bulk_plan (steps_of_bulk seed count) (length (steps_of_bulk seed count))
  pub written : Grew before now (totals_line seed count (totals_of_bulk seed count))
  pub holds : HoldsInBulk seed count (length (steps_of_bulk seed count))

-- ---- statuses 3 and 8

-- the file of that name is out of its grammar: the first fault of its first faulty line, which is printed alone
pub record IsOutOfForm (name : List ℕ) (files : Files) (before now : Option (List ℕ)) : Type 0 where
  pub file : List ℕ
  pub stands : HasFile files name file
  pub line : ℕ
  pub why : Why
  pub unspelled : scenario_of file ≡ Err (At line why)
  pub printed : Grew before now (fault_line line (why_word why))

-- the file of that name spells a scenario, of which so many steps are done and the next one isn't, for this fault: the lines of those
-- steps were written, and then the fault's line
pub record IsDrillBrokenOff (name : List ℕ) (files : Files) (status : ℕ) (before now : Option (List ℕ)) : Type 0 where
  pub scenario : Scenario
  pub spells : SpellsScenario name files scenario
  pub first : FirstFault scenario
  pub stated : status ≡ (fault_answer first.step.line first.fault).status
  pub printed : Grew before now (lines_of_first scenario first.count ++ (fault_answer first.step.line first.fault).text)
  pub holds : HoldsInDrill scenario first.count

-- the file of that name has too many octets for a recorded line, which is printed alone
pub record BitsTooLong (name : List ℕ) (files : Files) (before now : Option (List ℕ)) : Type 0 where
  pub file : List ℕ
  pub stands : HasFile files name file
  pub long : most_line_octets < length file
  pub printed : Grew before now (fault_line 0 (codes "long"))

-- the key file is good, and the file of the second name is out of the grammar of traces: its first fault, which is printed alone
pub record IsTraceOutOfForm (keys name : List ℕ) (files : Files) (before now : Option (List ℕ)) : Type 0 where
  pub key_file : List ℕ
  pub keys_stand : HasFile files keys key_file
  pub entries : List KmacEntry
  pub keys_spelled : keys_of key_file ≡ Ok entries
  pub file : List ℕ
  pub stands : HasFile files name file
  pub line : ℕ
  pub why : Why
  pub unspelled : trace_of file ≡ Err (At line why)
  pub written : Grew before now (fault_line line (why_word why))

-- an event of the trace isn't taken, the first such, for this fault: the printed text of those before it was written, and then its line
pub record IsEventRefused (keys name : List ℕ) (files : Files) (before now : Option (List ℕ)) : Type 0 where
  pub entries : List KmacEntry
  pub trace : Trace
  pub spell : SpellTrace keys name files entries trace
  pub fault : ReplayFault
  pub first : HasFirstRefusedEvent trace.settings (key_at entries) trace.entries fault
  pub written : Grew before now (text_of_trace trace.settings (key_at entries) first.first ++ replay_fault_line fault)

-- in a step of a bulk run too many frames would wait, which is printed alone
pub record IsBulkOverfull (seed count : ℕ) (before now : Option (List ℕ)) : Type 0 where
  pub first : FirstOverfull bulk_plan (steps_of_bulk seed count)
  pub written : Grew before now (overfull_line first.link first.side first.most)
  pub holds : HoldsInBulk seed count first.count

-- ---- status 7

-- the lines of some first steps of the drill that the file spells
pub record FirstLines (name : List ℕ) (files : Files) (text : List ℕ) : Type 0 where
  pub scenario : Scenario
  pub spells : SpellsScenario name files scenario
  pub count : ℕ
  pub are_done : AreDone scenario count
  pub is : text ≡ lines_of_first scenario count
  pub holds : HoldsInDrill scenario count

-- the lines of some first verdicts on the file
pub record FirstVerdictLines (name : List ℕ) (files : Files) (text : List ℕ) : Type 0 where
  pub file : List ℕ
  pub stands : HasFile files name file
  pub count : ℕ
  pub is : text ≡ verdict_lines (take count (verdicts_in file))

-- a beginning of the printed text of some first events, which are taken
pub record FirstEventLines (keys name : List ℕ) (files : Files) (text : List ℕ) : Type 0 where
  pub entries : List KmacEntry
  pub trace : Trace
  pub spell : SpellTrace keys name files entries trace
  pub first : List TraceEntry
  pub others : List TraceEntry
  pub are_first : trace.entries ≡ first ++ others
  pub taken : AreTaken trace.settings (key_at entries) first
  pub rest : List ℕ
  pub is : text ++ rest ≡ text_of_trace trace.settings (key_at entries) first

-- nothing was written where memory ran out before the first step
abbrev pub AreFirstLines : Command → Files → List ℕ → Type 0
AreFirstLines Misused files text = text ≡ []
AreFirstLines (Drill name) files text = (text ≡ []) ⊎ FirstLines name files text
AreFirstLines (Bits name) files text = (text ≡ []) ⊎ FirstVerdictLines name files text
AreFirstLines (Migrate keys) files text = text ≡ []
AreFirstLines (Replay keys trace) files text = (text ≡ []) ⊎ FirstEventLines keys trace files text
AreFirstLines (Check keys trace) files text = text ≡ []
AreFirstLines (Audit keys tap ends) files text = (text ≡ []) ⊎ FirstAuditText ends keys tap files text
AreFirstLines (Bulk seed count) files text = (text ≡ []) × HoldsWhereDone seed count
AreFirstLines (Serve keys address rbc turns) files text = ⊥
AreFirstLines (Call keys address engine rbc turns) files text = ⊥

-- want of memory: the sink got the lines of some first steps, and then the last line
pub record IsSpent (command : Command) (files : Files) (before now : Option (List ℕ)) : Type 0 where
  pub text : List ℕ
  pub first : AreFirstLines command files text
  pub printed : Grew before now (text ++ memory_line)

-- ---- status 5

-- where the file that was fetched spells a scenario, what is claimed of its world holds at every moment of the steps that are done
pub record HoldsInFile (name : List ℕ) (files : Files) (c d : ℕ) : Type 0 where
  pub fetched : Option (List ℕ)
  pub stands : HasFetched name fetched files c d
  pub holds : (file : List ℕ) (scenario : Scenario) (count : ℕ) → fetched ≡ Some file → scenario_of file ≡ Ok scenario
      → AreDone scenario count → HoldsInDrill scenario count

abbrev pub WorldsHold : Command → Files → ℕ → ℕ → Type 0
WorldsHold Misused files c d = Unit {0}
WorldsHold (Drill name) files c d = HoldsInFile name files c d
WorldsHold (Bits name) files c d = Unit {0}
WorldsHold (Migrate keys) files c d = Unit {0}
WorldsHold (Replay keys trace) files c d = Unit {0}
WorldsHold (Check keys trace) files c d = Unit {0}
WorldsHold (Audit keys tap ends) files c d = Unit {0}
WorldsHold (Bulk seed count) files c d = HoldsWhereDone seed count
WorldsHold (Serve keys address rbc turns) files c d = Unit {0}
WorldsHold (Call keys address engine rbc turns) files c d = Unit {0}

-- a beginning of what the run would have written, and what is claimed of the worlds of drill and bulk
pub record IsAnswerBegun (command : Command) (files : Files) (c d : ℕ) (before now : Option (List ℕ)) : Type 0 where
  pub answer : Answer
  pub is : IsAnswer command files c d answer
  pub part : GrewPart before now answer.text
  pub holds : WorldsHold command files c d

-- the lines of some first steps, and then a beginning of the last line of want of memory
pub record IsMemoryBegun (command : Command) (files : Files) (before now : Option (List ℕ)) : Type 0 where
  pub text : List ℕ
  pub first : AreFirstLines command files text
  pub tail : List ℕ
  pub rest : List ℕ
  pub is : tail ++ rest ≡ memory_line
  pub printed : Grew before now (text ++ tail)

-- a write failed. The sink got a beginning of what the run would have written; where want of memory came before, the lines of some first
-- steps and then a beginning of the last line
abbrev pub IsTextBegun : Command → Files → (c d : ℕ) → (before now : Option (List ℕ)) → Type 0
IsTextBegun command files c d before now = IsAnswerBegun command files c d before now ⊎ IsMemoryBegun command files before now

-- ---- completeness

-- a file's status is that of its answer; in particular 0 where it spells a scenario whose steps are all done
pub record HasStatus (file : List ℕ) (status : ℕ) : Type 0 where
  pub answer : Answer
  pub answers : IsScenarioAnswer (scenario_of file) answer
  pub is : status ≡ answer.status
  pub all_done : (scenario : Scenario) → scenario_of file ≡ Ok scenario → AreDone scenario (length scenario.steps) → status ≡ 0

-- a key file's status is that of its answer: 0 where it has entries
pub record HasKeysStatus (file : List ℕ) (status : ℕ) : Type 0 where
  pub answer : Answer
  pub answers : IsKeysAnswer (keys_of file) answer
  pub is : status ≡ answer.status

-- a trace's status is that of its answer; in particular 0 where it spells a trace whose events are all taken
pub record HasTraceStatus (entries : List KmacEntry) (name : List ℕ) (files : Files) (status : ℕ) : Type 0 where
  pub file : List ℕ
  pub stands : HasFile files name file
  pub answer : Answer
  pub answers : IsTraceAnswer entries (trace_of file) answer
  pub is : status ≡ answer.status
  pub all_taken : (trace : Trace) → trace_of file ≡ Ok trace → AreTaken trace.settings (key_at entries) trace.entries → status ≡ 0

-- a key file that is refused has its status, and one that is good leaves it to the file behind it
abbrev pub IsStatusBehindKeys : (List KmacEntry → List ℕ → Files → ℕ → Type 0) → Result (List KmacEntry) KeyFileFault → (name : List ℕ) → Files → ℕ → Type 0
IsStatusBehindKeys Has (Err fault) name files status = status ≡ (keys_answer fault).status
IsStatusBehindKeys Has (Ok entries) name files status = Has entries name files status

pub record HasKeyedStatus (Has : List KmacEntry → List ℕ → Files → ℕ → Type 0) (keys name : List ℕ) (files : Files) (status : ℕ) : Type 0 where
  pub key_file : List ℕ
  pub keys_stand : HasFile files keys key_file
  pub is : IsStatusBehindKeys Has (keys_of key_file) name files status

-- a bulk run's status is that of its answer; in particular 0 where its steps are all done
pub record HasBulkStatus (seed count : ℕ) (status : ℕ) : Type 0 where
  pub answer : Answer
  pub answers : IsBulkAnswer seed count answer
  pub is : status ≡ answer.status
  pub all_done : AllDone bulk_plan (steps_of_bulk seed count) (length (steps_of_bulk seed count)) → status ≡ 0
