-- What a run of the program answers where no write fails and memory suffices: a status and a text (this profile).
use Rattle.std.specs.Prelude.{◌≡◌, ◌<◌, ℕ, List, [], ◌∷◌, ◌++◌, take, length, slice_get, nat_lt, Bool, if◌then◌else◌, Option, Some, None, Result, Ok, Err}
use Rattle.std.specs.Prelude.{codes}
use Rattle.std.specs.Fmt.{decimal}
use Rattle.er_base.specs.LineTexts.{line_text}
use Rattle.er_base.specs.declared.text_fault.TextFault.{TextFault}
use Rattle.er_base.specs.declared.text_fault.TextFault.TheVariants as text
use Rattle.er_scenario.specs.declared.step.Step.{Step}
use Rattle.er_scenario.specs.declared.numbered.Numbered.{Numbered}
use Rattle.er_scenario.specs.declared.scenario.Scenario.{Scenario}
use Rattle.er_scenario.specs.Files.{scenario_of}
use Rattle.drill_model.specs.declared.world_fault.WorldFault.{WorldFault}
use Rattle.drill_model.specs.declared.world_fault.WorldFault.TheVariants.{NoLink, LinkTwice, MomentBack, Overfull, NoMemory}
use Rattle.drill_model.specs.Worlds.{plan_of, steps_of}
use Rattle.drill_model.specs.Faults.{fault_behind, AllDone}
use Rattle.drill_model.specs.Texts.{first_lines, drill_text}
use Rattle.er_program.specs.Commands.{Command, Misused, Drill, Bits, Migrate, Replay, Check, Audit, Bulk, Serve, Call}
use Rattle.er_program.specs.BitTexts.{most_line_octets, bits_text}
use Rattle.er_program.specs.BulkTexts.{bulk_plan, steps_of_bulk, totals_of_bulk, totals_line, FirstOverfull}
use Rattle.safety_automaton.specs.Keys.{KmacEntry, key_at}
use Rattle.er_settings.specs.Values.{Settings}
use Rattle.er_trace.specs.declared.entry.Entry.{Entry as TraceEntry}
use Rattle.er_trace.specs.declared.trace.Trace.{Trace}
use Rattle.er_trace.specs.Files.{trace_of}
use Rattle.er_end_model.specs.Steps.{Finds}
use Rattle.er_tap.specs.declared.tap.Tap.{Tap}
use Rattle.er_tap.specs.declared.tap_line.TapLine.{TapLine}
use Rattle.er_tap.specs.Files.{tap_of}
use Rattle.tap_model.specs.Lines.{TapFault, NoLinkAt, TwiceAt, fault_of_tap_lines}
use Rattle.tap_model.specs.EndTexts.{text_of_audit}
use Rattle.trace_model.specs.declared.replay_fault.ReplayFault.{ReplayFault}
use Rattle.trace_model.specs.declared.replay_fault.ReplayFault.TheVariants as refused
use Rattle.trace_model.specs.declared.check_verdict.CheckVerdict.{CheckVerdict}
use Rattle.trace_model.specs.declared.check_verdict.CheckVerdict.TheVariants as verdict
use Rattle.trace_model.specs.Recordings.{ended_part, check_verdict}
use Rattle.trace_model.specs.Printed.{text_of_trace}
use Rattle.trace_model.specs.Replays.{AreTaken, HasFirstRefusedEvent}
use Rattle.key_store.specs.declared.key_file_fault.KeyFileFault.{KeyFileFault}
use Rattle.key_store.specs.KeyFiles.{keys_of}
use Rattle.er_statuses.specs.Answers.{Answer, Files, HasFetched, keys_answer}
use Rattle.er_statuses.specs.LastLines.{usage_line, fetch_line, fault_line, memory_line, overfull_line, why_word}

-- ---- a drill

-- the first steps of a scenario, and the lines of what came of them
abbrev pub first_steps : Scenario → ℕ → List Step
first_steps s count = take count (steps_of s)

abbrev pub lines_of_first : Scenario → ℕ → List ℕ
lines_of_first s count = first_lines (plan_of s) (first_steps s count)

-- why a step isn't done behind the first ones, if it isn't
abbrev pub fault_behind_first : Scenario → ℕ → Step → Option WorldFault
fault_behind_first s count step = fault_behind (plan_of s) (first_steps s count) step

-- the first steps are all done
abbrev pub AreDone : Scenario → ℕ → Type 0
AreDone s count = (k : ℕ) (x : Numbered) → k < count → slice_get s.steps k ≡ Some x → fault_behind_first s k x.step ≡ None

-- so many steps are done and the next one isn't, for this fault
pub record FirstFault (s : Scenario) : Type 0 where
  pub count : ℕ
  pub step : Numbered
  pub next : slice_get s.steps count ≡ Some step
  pub are_done : AreDone s count
  pub fault : WorldFault
  pub is_fault : fault_behind_first s count step.step ≡ Some fault

-- a step that isn't done, at this line of the file, ends the drill: with status 3 where it is refused, with 8 where too many frames would
-- wait
abbrev pub fault_answer : ℕ → WorldFault → Answer
fault_answer line (NoLink n) = record { status = 3; text = fault_line line (codes "nolink") }
fault_answer line (LinkTwice n) = record { status = 3; text = fault_line line (codes "twice") }
fault_answer line (MomentBack was now) = record { status = 3; text = fault_line line (codes "back") }
fault_answer line (Overfull n side most) = record { status = 8; text = overfull_line n side most }
fault_answer line (NoMemory want) = record { status = 7; text = memory_line }

-- a drill whose steps are all done gives its text; one that breaks off the lines of the steps before, and the fault's line
pub data IsDrillAnswer (s : Scenario) (a : Answer) : Type 0 where
  IsWhole : AreDone s (length s.steps) → a ≡ record { status = 0; text = drill_text s } → IsDrillAnswer s a
  BreaksOff : (f : FirstFault s)
      → a ≡ record { status = (fault_answer f.step.line f.fault).status; text = lines_of_first s f.count ++ (fault_answer f.step.line f.fault).text }
      → IsDrillAnswer s a

-- ---- a file

-- a file that spells a scenario is drilled; a fault of its grammar prints its line alone
abbrev pub IsScenarioAnswer : Result Scenario TextFault → Answer → Type 0
IsScenarioAnswer (Err (text.At line why)) a = a ≡ record { status = 3; text = fault_line line (why_word why) }
IsScenarioAnswer (Err (text.NoMemory want)) a = a ≡ record { status = 7; text = memory_line }
IsScenarioAnswer (Ok s) a = IsDrillAnswer s a

abbrev pub IsFetchedAnswer : List ℕ → Option (List ℕ) → Answer → Type 0
IsFetchedAnswer name None a = a ≡ record { status = 2; text = fetch_line name }
IsFetchedAnswer name (Some file) a = IsScenarioAnswer (scenario_of file) a

-- the answer to a file word
pub record IsFileAnswer (name : List ℕ) (files : Files) (c d : ℕ) (a : Answer) : Type 0 where
  pub fetched : Option (List ℕ)
  pub stands : HasFetched name fetched files c d
  pub is : IsFetchedAnswer name fetched a

-- ---- a recorded line

-- a file of too many octets is refused; any other is read as frames
abbrev pub bits_answer : List ℕ → Answer
bits_answer file =
    if nat_lt most_line_octets (length file)
    then record { status = 3; text = fault_line 0 (codes "long") }
    else record { status = 0; text = bits_text file }

abbrev pub IsFetchedBits : List ℕ → Option (List ℕ) → Answer → Type 0
IsFetchedBits name None a = a ≡ record { status = 2; text = fetch_line name }
IsFetchedBits name (Some file) a = a ≡ bits_answer file

-- the answer to the file word of a recorded line
pub record IsBitsAnswer (name : List ℕ) (files : Files) (c d : ℕ) (a : Answer) : Type 0 where
  pub fetched : Option (List ℕ)
  pub stands : HasFetched name fetched files c d
  pub is : IsFetchedBits name fetched a

-- ---- a key file

-- entries are printed as a key file that has them one by one, in order; its octets are those that TOML's printer gives, and nothing is
-- claimed of them
pub record IsKeyText (entries : List KmacEntry) (a : Answer) : Type 0 where
  pub stated : a.status ≡ 0
  pub same : keys_of a.text ≡ Ok entries

abbrev pub IsKeysAnswer : Result (List KmacEntry) KeyFileFault → Answer → Type 0
IsKeysAnswer (Ok entries) a = IsKeyText entries a
IsKeysAnswer (Err fault) a = a ≡ keys_answer fault

abbrev pub IsFetchedKeys : List ℕ → Option (List ℕ) → Answer → Type 0
IsFetchedKeys name None a = a ≡ record { status = 2; text = fetch_line name }
IsFetchedKeys name (Some file) a = IsKeysAnswer (keys_of file) a

-- the answer to the file word of a key file that is printed
pub record IsMigrateAnswer (name : List ℕ) (files : Files) (c d : ℕ) (a : Answer) : Type 0 where
  pub fetched : Option (List ℕ)
  pub stands : HasFetched name fetched files c d
  pub is : IsFetchedKeys name fetched a

-- ---- a key file and a trace

-- the line of an event that isn't taken; no event is refused as the sink's failure or as want of memory
abbrev pub replay_fault_line : ReplayFault → List ℕ
replay_fault_line (refused.NoConn line conn) = fault_line line (codes "noconn")
replay_fault_line (refused.ConnTwice line conn) = fault_line line (codes "twice")
replay_fault_line (refused.MomentBack line was now) = fault_line line (codes "back")
replay_fault_line (refused.NoKey line engine rbc) = fault_line line (codes "nokey")
replay_fault_line (refused.Many line live) = fault_line line (codes "many")
replay_fault_line refused.Sink = []
replay_fault_line (refused.NoMemory want) = []

-- events that are all taken give their printed text; where one is refused, the text of those before it is followed by its line
pub data IsReplayAnswer (settings : Settings) (finds : Finds) (entries : List TraceEntry) (a : Answer) : Type 0 where
  AllAreTaken : AreTaken settings finds entries → a ≡ record { status = 0; text = text_of_trace settings finds entries }
      → IsReplayAnswer settings finds entries a
  OneIsRefused : (fault : ReplayFault) (first : HasFirstRefusedEvent settings finds entries fault)
      → a ≡ record { status = 3; text = text_of_trace settings finds first.first ++ replay_fault_line fault }
      → IsReplayAnswer settings finds entries a

-- a file that spells a trace is replayed with these entries of a key file; a fault of its grammar prints its line alone
abbrev pub IsTraceAnswer : List KmacEntry → Result Trace TextFault → Answer → Type 0
IsTraceAnswer keys (Err (text.At line why)) a = a ≡ record { status = 3; text = fault_line line (why_word why) }
IsTraceAnswer keys (Err (text.NoMemory want)) a = a ≡ record { status = 7; text = memory_line }
IsTraceAnswer keys (Ok trace) a = IsReplayAnswer trace.settings (key_at keys) trace.entries a

-- the answer to the octets of such a file
abbrev pub IsReplayOfFile : List KmacEntry → (file : List ℕ) → Answer → Type 0
IsReplayOfFile keys file a = IsTraceAnswer keys (trace_of file) a

-- ---- a key file and a recording

-- the line of a recording that is what its replay prints
abbrev pub checked_line : (events outcomes : ℕ) → List ℕ
checked_line events outcomes = line_text (codes "checked" ∷ decimal events ∷ codes "events" ∷ decimal outcomes ∷ codes "outcomes" ∷ [])

-- what is told of a recording of so many events
abbrev pub verdict_answer : (events : ℕ) → CheckVerdict → Answer
verdict_answer events (verdict.Same outcomes) = record { status = 0; text = checked_line events outcomes }
verdict_answer events (verdict.Differs line) = record { status = 9; text = fault_line line (codes "differs") }
verdict_answer events (verdict.Cut line) = record { status = 9; text = fault_line line (codes "cut") }
verdict_answer events (verdict.Missing line) = record { status = 9; text = fault_line line (codes "missing") }

-- events that are all taken have the verdict told; where one is refused, its line is printed alone
pub data IsCheckAnswer (settings : Settings) (finds : Finds) (entries : List TraceEntry) (file : List ℕ) (a : Answer) : Type 0 where
  AllAreJudged : AreTaken settings finds entries
      → a ≡ verdict_answer (length entries) (check_verdict file (text_of_trace settings finds entries)) → IsCheckAnswer settings finds entries file a
  OneIsTold : (fault : ReplayFault) (first : HasFirstRefusedEvent settings finds entries fault)
      → a ≡ record { status = 3; text = replay_fault_line fault } → IsCheckAnswer settings finds entries file a

-- what its ended lines are read as
abbrev pub IsRecordingAnswer : List KmacEntry → (file : List ℕ) → Result Trace TextFault → Answer → Type 0
IsRecordingAnswer keys file (Err (text.At line why)) a = a ≡ record { status = 3; text = fault_line line (why_word why) }
IsRecordingAnswer keys file (Err (text.NoMemory want)) a = a ≡ record { status = 7; text = memory_line }
IsRecordingAnswer keys file (Ok trace) a = IsCheckAnswer trace.settings (key_at keys) trace.entries file a

-- the answer to the octets of such a file, whose last line isn't read where no LF ends it
abbrev pub IsCheckOfFile : List KmacEntry → (file : List ℕ) → Answer → Type 0
IsCheckOfFile keys file a = IsRecordingAnswer keys file (trace_of (ended_part file)) a

-- ---- a key file and a tap

-- a tap whose lines stand in order is audited; the first line that doesn't prints its line alone
abbrev pub lines_answer : (ends : Bool) → Finds → List TapLine → Option TapFault → Answer
lines_answer ends finds lines None = record { status = 0; text = text_of_audit ends finds lines }
lines_answer ends finds lines (Some (NoLinkAt line n)) = record { status = 3; text = fault_line line (codes "nolink") }
lines_answer ends finds lines (Some (TwiceAt line n)) = record { status = 3; text = fault_line line (codes "twice") }

-- a file that spells a tap is audited with these entries of a key file; a fault of its grammar prints its line alone
abbrev pub tap_answer : (ends : Bool) → List KmacEntry → Result Tap TextFault → Answer
tap_answer ends keys (Err (text.At line why)) = record { status = 3; text = fault_line line (why_word why) }
tap_answer ends keys (Err (text.NoMemory want)) = record { status = 7; text = memory_line }
tap_answer ends keys (Ok tap) = lines_answer ends (key_at keys) tap.lines (fault_of_tap_lines tap.lines)

-- the answer to the octets of such a file
abbrev pub IsAuditOfFile : (ends : Bool) → List KmacEntry → (file : List ℕ) → Answer → Type 0
IsAuditOfFile ends keys file a = a ≡ tap_answer ends keys (tap_of file)

-- ---- a key file and another file, to whose octets a command answers by the entries of the key file

abbrev pub IsFetchedSecond : (List KmacEntry → List ℕ → Answer → Type 0) → List KmacEntry → (name : List ℕ) → Option (List ℕ) → Answer → Type 0
IsFetchedSecond Is keys name None a = a ≡ record { status = 2; text = fetch_line name }
IsFetchedSecond Is keys name (Some file) a = Is keys file a

-- the answer to the second file word, where the key file has these entries
pub record IsSecondFileAnswer (Is : List KmacEntry → List ℕ → Answer → Type 0) (keys : List KmacEntry) (name : List ℕ) (files : Files) (c d : ℕ) (a : Answer)
    : Type 0 where
  pub fetched : Option (List ℕ)
  pub stands : HasFetched name fetched files c d
  pub is : IsFetchedSecond Is keys name fetched a

-- the second file is asked for where the key file is good
abbrev pub IsAnswerBehindKeys : (List KmacEntry → List ℕ → Answer → Type 0) → Result (List KmacEntry) KeyFileFault → (name : List ℕ) → Files → ℕ → ℕ → Answer
    → Type 0
IsAnswerBehindKeys Is (Err fault) name files c d a = a ≡ keys_answer fault
IsAnswerBehindKeys Is (Ok keys) name files c d a = IsSecondFileAnswer Is keys name files c d a

abbrev pub IsFetchedKeyed : (List KmacEntry → List ℕ → Answer → Type 0) → (keys name : List ℕ) → Option (List ℕ) → Files → ℕ → ℕ → Answer → Type 0
IsFetchedKeyed Is keys name None files c d a = a ≡ record { status = 2; text = fetch_line keys }
IsFetchedKeyed Is keys name (Some file) files c d a = IsAnswerBehindKeys Is (keys_of file) name files c d a

-- the answer to both file words
pub record IsKeyedAnswer (Is : List KmacEntry → List ℕ → Answer → Type 0) (keys name : List ℕ) (files : Files) (c d : ℕ) (a : Answer) : Type 0 where
  pub fetched : Option (List ℕ)
  pub stands : HasFetched keys fetched files c d
  pub is : IsFetchedKeyed Is keys name fetched files c d a

-- ---- a bulk run

-- where its steps are all done, one line is printed, with their totals; where one isn't, too many frames would wait. No step is refused
pub data IsBulkAnswer (seed count : ℕ) (a : Answer) : Type 0 where
  AllAreCounted : AllDone bulk_plan (steps_of_bulk seed count) (length (steps_of_bulk seed count))
      → a ≡ record { status = 0; text = totals_line seed count (totals_of_bulk seed count) }
      → IsBulkAnswer seed count a
  TooManyWait : (f : FirstOverfull bulk_plan (steps_of_bulk seed count)) → a ≡ record { status = 8; text = overfull_line f.link f.side f.most }
      → IsBulkAnswer seed count a

-- ---- the words

-- the answer to a command that needs no wires, by the files and the cabinet's count of faults before and after
abbrev pub IsAnswer : Command → Files → ℕ → ℕ → Answer → Type 0
IsAnswer Misused files c d a = a ≡ record { status = 1; text = usage_line }
IsAnswer (Drill name) files c d a = IsFileAnswer name files c d a
IsAnswer (Bits name) files c d a = IsBitsAnswer name files c d a
IsAnswer (Migrate keys) files c d a = IsMigrateAnswer keys files c d a
IsAnswer (Replay keys trace) files c d a = IsKeyedAnswer IsReplayOfFile keys trace files c d a
IsAnswer (Check keys trace) files c d a = IsKeyedAnswer IsCheckOfFile keys trace files c d a
IsAnswer (Audit keys tap ends) files c d a = IsKeyedAnswer (IsAuditOfFile ends) keys tap files c d a
IsAnswer (Bulk seed count) files c d a = IsBulkAnswer seed count a
IsAnswer (Serve keys address rbc turns) files c d a = ⊥
IsAnswer (Call keys address engine rbc turns) files c d a = ⊥
