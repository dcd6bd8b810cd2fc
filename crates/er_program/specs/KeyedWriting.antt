-- Representation: what a command that reads a key file and another file answers, and what is written where memory runs out; no claim rests on it.
use Rattle.std.specs.Prelude.{◌≡◌, ◌⊎◌, ℕ, List, [], Result, Ok, Err}
use Rattle.er_trace.specs.Files.{trace_of}
use Rattle.er_tap.specs.Files.{tap_of}
use Rattle.safety_automaton.specs.Keys.{KmacEntry}
use Rattle.key_store.specs.declared.key_file_fault.KeyFileFault.{KeyFileFault}
use Rattle.link_trait.specs.Outside.{HasFile}
use Rattle.er_statuses.specs.Answers.{Answer, Files}
use Rattle.er_program.specs.declared.work.Work.{Work}
use Rattle.er_program.specs.declared.work.Work.TheVariants as work
use Rattle.er_program.specs.Answers.{IsReplayOfFile, IsCheckOfFile, IsAuditOfFile}
use Rattle.er_program.specs.AuditRuns.{HasTapStatus}
use Rattle.er_program.specs.CheckRuns.{HasRecordingStatus}
use Rattle.er_program.specs.Runs.{HasTraceStatus}
use Rattle.er_program.specs.AuditWriting.{BeginsTap}
use Rattle.er_program.specs.CheckWriting.{IsNothing}
use Rattle.er_program.specs.ReplayWriting.{BeginsTrace}

-- the answer to the octets of a file
abbrev pub IsOfWork : Work → List KmacEntry → (file : List ℕ) → Answer → Type 0
IsOfWork work.Replay = IsReplayOfFile
IsOfWork work.Check = IsCheckOfFile
IsOfWork (work.Audit ends) = IsAuditOfFile ends

abbrev pub HasStatusOfWork : Work → List KmacEntry → (name : List ℕ) → Files → ℕ → Type 0
HasStatusOfWork work.Replay = HasTraceStatus
HasStatusOfWork work.Check = HasRecordingStatus
HasStatusOfWork (work.Audit ends) = HasTapStatus ends

-- ---- what is written where memory runs out

abbrev pub BeginsOfWork : Work → List KmacEntry → (file text : List ℕ) → Type 0
BeginsOfWork work.Replay keys file text = BeginsTrace keys (trace_of file) text
BeginsOfWork work.Check keys file text = IsNothing text
BeginsOfWork (work.Audit ends) keys file text = BeginsTap ends keys (tap_of file) text

-- of the file of that name
pub record BeginsFile (Begins : List KmacEntry → List ℕ → List ℕ → Type 0) (keys : List KmacEntry) (name : List ℕ) (files : Files) (text : List ℕ) : Type 0
  where
    pub file : List ℕ
    pub stands : HasFile files name file
    pub begins : Begins keys file text

abbrev pub BeginsSecondFile : (List KmacEntry → List ℕ → List ℕ → Type 0) → List KmacEntry → (name : List ℕ) → Files → List ℕ → Type 0
BeginsSecondFile Begins keys name files text = (text ≡ []) ⊎ BeginsFile Begins keys name files text

-- behind a key file
abbrev pub BeginsGood : (List KmacEntry → List ℕ → List ℕ → Type 0) → Result (List KmacEntry) KeyFileFault → (name : List ℕ) → Files → List ℕ → Type 0
BeginsGood Begins (Err fault) name files text = ⊥
BeginsGood Begins (Ok keys) name files text = BeginsFile Begins keys name files text

abbrev pub BeginsBehindKeys : (List KmacEntry → List ℕ → List ℕ → Type 0) → Result (List KmacEntry) KeyFileFault → (name : List ℕ) → Files → List ℕ → Type 0
BeginsBehindKeys Begins read name files text = (text ≡ []) ⊎ BeginsGood Begins read name files text
