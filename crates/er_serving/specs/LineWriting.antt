-- Representation: how the parts of a run of `serve` or `call` end; no claim rests on it.
use Rattle.std.specs.Prelude.{◌≡◌, ◌⊎◌, ℕ, false, List, [], ◌∷◌, Result, Ok, Err}
use Rattle.safety_automaton.specs.Keys.{KmacEntry}
use Rattle.key_store.specs.declared.key_file_fault.KeyFileFault.{KeyFileFault}
use Rattle.key_store.specs.KeyFiles.{keys_of}
use Rattle.link_trait.specs.Outside.{Grew, GrewPart, Rose, HasFile}
use Rattle.outside.specs.Acts.{Wrote}
use Rattle.outside.specs.Doings.{Told, Did}
use Rattle.outside.specs.Scripts.{With, Sunk, OutOfMemory, printing}
use Rattle.loop_session.specs.declared.loop_fault.LoopFault.{LoopFault}
use Rattle.loop_session.specs.declared.loop_fault.LoopFault.TheVariants as fault
use Rattle.readiness_loop.specs.declared.line_plan.Served.{Served}
use Rattle.er_statuses.specs.Answers.{keys_answer, AreKeysRefused}
use Rattle.er_statuses.specs.LastLines.{fetch_line, memory_line}
use Rattle.er_statuses.specs.ScriptEnds.{end_of_run}
use Rattle.er_statuses.specs.declared.status.Status.{Status}
use Rattle.er_statuses.specs.declared.stop.Stop.{Stop}
use Rattle.er_statuses.specs.declared.stop.Stop.TheVariants as stop
use Rattle.er_serving.specs.Outsides.{Outside, Traffic, traffic_of, IsLeftAlone}
use Rattle.er_serving.specs.LineCommands.{LineCommand, key_file_of, AsksClock}
use Rattle.er_serving.specs.LineRuns.{GivenToLoop, IsLineStatus, IsLineIdle, Looped, LoopBreaks, FailsWith, LacksKey, IsServed, IsPairKeyless, IsLoopFailed}
use Rattle.er_serving.specs.LineRuns.{IsMemoryTold, RunsOut, HasLineStatus, wires_line}
use Rattle.er_serving.specs.LineStatuses.{LineBroke}

-- ---- how the loop ended

-- the last line was said where the wires failed, or its write failed
abbrev pub WiresTold : (before now : Told) → Result Status Stop → Type 0
WiresTold before now (Ok s) = (s.0 ≡ 6) × Did before now (printing wires_line)
WiresTold before now (Err stop.Sink) = Did before now (Wrote wires_line false ∷ [])
WiresTold before now (Err (stop.NoMemory want)) = ⊥

-- its end was told: nothing else was done
abbrev pub LoopTold : Result Served LoopFault → (before now : Told) → Result Status Stop → Type 0
LoopTold (Ok served) before now result = (end_of_run result ≡ With 0) × (now ≡ before)
LoopTold (Err fault.Wires) before now result = WiresTold before now result
LoopTold (Err fault.Sink) before now result = (end_of_run result ≡ Sunk) × (now ≡ before)
LoopTold (Err (fault.NoMemory want)) before now result = (end_of_run result ≡ OutOfMemory) × (now ≡ before)

-- ---- with these entries of the key file

pub data LoopEnded (command : LineCommand) (entries : List KmacEntry) (g : GivenToLoop) (before now : Traffic) (status : ℕ) : Type 0 where
  HasLooped : status ≡ 0 → Looped command entries g before now → LoopEnded command entries g before now status
  WiresFailed : status ≡ 6 → Rose before.turns_failed now.turns_failed → FailsWith command entries g before now (λ held held_now. Grew held held_now wires_line)
      → LoopEnded command entries g before now status
  KeyLacks : status ≡ 4 → IsLeftAlone (AsksClock command) before now → LacksKey command entries before now (Grew before.held now.held)
      → LoopEnded command entries g before now status

pub data LoopBroke (command : LineCommand) (entries : List KmacEntry) (g : GivenToLoop) (before now : Traffic) : Type 0 where
  InLoop : LoopBreaks command entries g before now → LoopBroke command entries g before now
  InWiresLine : FailsWith command entries g before now (λ held held_now. GrewPart held held_now wires_line)
      → LoopBroke command entries g before now
  InKeyLine : IsLeftAlone (AsksClock command) before now → LacksKey command entries before now (GrewPart before.held now.held)
      → LoopBroke command entries g before now

-- memory ran out: nothing was printed or called, or a beginning in the loop
abbrev pub LoopSpent : LineCommand → List KmacEntry → GivenToLoop → Traffic → Traffic → Type 0
LoopSpent command entries g before now = (Grew before.held now.held [] × IsLeftAlone (AsksClock command) before now) ⊎ LoopBreaks command entries g before now

abbrev pub LoopEnds : LineCommand → List KmacEntry → GivenToLoop → Traffic → Traffic → Result Status Stop → Type 0
LoopEnds command entries g before now (Ok s) = LoopEnded command entries g before now s.0
LoopEnds command entries g before now (Err stop.Sink) = LoopBroke command entries g before now × Rose before.sunk now.sunk
LoopEnds command entries g before now (Err (stop.NoMemory want)) = LoopSpent command entries g before now

-- ---- with the octets of the key file

abbrev pub FileEnded : LineCommand → Result (List KmacEntry) KeyFileFault → GivenToLoop → Traffic → Traffic → ℕ → Type 0
FileEnded command (Ok entries) g before now status = LoopEnded command entries g before now status
FileEnded command (Err fault) g before now status =
    (status ≡ (keys_answer fault).status) × Grew before.held now.held (keys_answer fault).text × IsLeftAlone (AsksClock command) before now

abbrev pub FileBroke : LineCommand → Result (List KmacEntry) KeyFileFault → GivenToLoop → Traffic → Traffic → Type 0
FileBroke command (Ok entries) g before now = LoopBroke command entries g before now
FileBroke command (Err fault) g before now = GrewPart before.held now.held (keys_answer fault).text × IsLeftAlone (AsksClock command) before now

abbrev pub FileSpent : LineCommand → Result (List KmacEntry) KeyFileFault → GivenToLoop → Traffic → Traffic → Type 0
FileSpent command (Ok entries) g before now = LoopSpent command entries g before now
FileSpent command (Err fault) g before now = Grew before.held now.held [] × IsLeftAlone (AsksClock command) before now

abbrev pub FileEnds : LineCommand → Result (List KmacEntry) KeyFileFault → GivenToLoop → Traffic → Traffic → Result Status Stop → Type 0
FileEnds command read g before now (Ok s) = FileEnded command read g before now s.0
FileEnds command read g before now (Err stop.Sink) = FileBroke command read g before now × Rose before.sunk now.sunk
FileEnds command read g before now (Err (stop.NoMemory want)) = FileSpent command read g before now

-- ---- the words

pub data LineEnded (command : LineCommand) (g : GivenToLoop) (before now : Outside) (status : ℕ) : Type 0 where
  NotFetched : status ≡ 2 → Rose before.unfetched now.unfetched → Grew before.held now.held (fetch_line (key_file_of command))
      → IsLeftAlone (AsksClock command) (traffic_of before) (traffic_of now) → LineEnded command g before now status
  WasRead : (file : List ℕ) → HasFile now.files (key_file_of command) file → FileEnded command (keys_of file) g (traffic_of before) (traffic_of now) status
      → LineEnded command g before now status

abbrev pub LineEnds : LineCommand → GivenToLoop → Outside → Outside → Result Status Stop → Type 0
LineEnds command g before now (Ok s) = LineEnded command g before now s.0
LineEnds command g before now (Err stop.Sink) = LineBroke command g before now
LineEnds command g before now (Err (stop.NoMemory want)) = RunsOut command g now.files (traffic_of before) (traffic_of now)

-- ---- what a run means by its status

-- a fetch failed
pub record LineUnfetched (command : LineCommand) (before now : Outside) : Type 0 where
  pub rose : Rose before.unfetched now.unfetched
  pub printed : Grew before.held now.held (fetch_line (key_file_of command))

-- where the key file's name alone was asked for
abbrev pub LineKeyless : LineCommand → Outside → Outside → Type 0
LineKeyless command before now =
    Grew before.asked now.asked (key_file_of command ∷ [])
    → AreKeysRefused (key_file_of command) now.files before.asked now.asked before.held now.held ⊎ IsPairKeyless command before now

pub record LineMeans (command : LineCommand) (g : GivenToLoop) (before now : Outside) (status : ℕ) : Type 0 where
  pub known : IsLineStatus status
  pub served : status ≡ 0 → IsServed command g before now
  pub fetch : status ≡ 2 → LineUnfetched command before now
  pub keys : status ≡ 4 → LineKeyless command before now
  pub sink : status ≡ 5 → LineBroke command g before now
  pub wires : status ≡ 6 → IsLoopFailed command g before now
  pub memory : status ≡ 7 → IsMemoryTold command g before now (λ held held_now. Grew held held_now memory_line)
  pub idle : IsLineIdle command before now status
  pub complete : (Rose before.unfetched now.unfetched → ⊥) → (Rose before.sunk now.sunk → ⊥) → (Rose before.turns_failed now.turns_failed → ⊥)
      → HasLineStatus command before now status ⊎ (status ≡ 7)
