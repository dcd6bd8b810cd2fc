-- What is claimed of a run of `check`, by its status (this profile): the recording is what its replay prints, or a line of it isn't, or the key
-- file, the recording or one of its events is refused.
use Rattle.std.specs.Prelude.{◌≡◌, ℕ, List, length, Option, Ok, Err}
use Rattle.er_base.specs.declared.why.Why.{Why}
use Rattle.er_base.specs.declared.text_fault.TextFault.TheVariants.{At}
use Rattle.er_trace.specs.declared.trace.Trace.{Trace}
use Rattle.er_trace.specs.Files.{trace_of}
use Rattle.safety_automaton.specs.Keys.{KmacEntry, key_at}
use Rattle.key_store.specs.KeyFiles.{keys_of}
use Rattle.link_trait.specs.Outside.{Grew, HasFile}
use Rattle.trace_model.specs.declared.check_verdict.CheckVerdict.{CheckVerdict}
use Rattle.trace_model.specs.declared.check_verdict.CheckVerdict.TheVariants.{Same}
use Rattle.trace_model.specs.declared.replay_fault.ReplayFault.{ReplayFault}
use Rattle.trace_model.specs.Printed.{text_of_trace}
use Rattle.trace_model.specs.Recordings.{ended_part, check_verdict}
use Rattle.trace_model.specs.Replays.{AreTaken, HasFirstRefusedEvent}
use Rattle.er_statuses.specs.Answers.{Answer, Files}
use Rattle.er_statuses.specs.LastLines.{fault_line, why_word}
use Rattle.er_program.specs.Answers.{replay_fault_line, checked_line, verdict_answer, IsCheckOfFile}

-- the file of the first name is a key file with these entries, and the ended lines of that of the second one spell this trace
pub record SpellRecording (keys name : List ℕ) (files : Files) (entries : List KmacEntry) (file : List ℕ) (trace : Trace) : Type 0 where
  pub key_file : List ℕ
  pub keys_stand : HasFile files keys key_file
  pub keys_spelled : keys_of key_file ≡ Ok entries
  pub stands : HasFile files name file
  pub spelled : trace_of (ended_part file) ≡ Ok trace

-- its events are all taken, and this is the verdict on its lines
pub record IsJudgedRecording (keys name : List ℕ) (files : Files) (trace : Trace) (verdict : CheckVerdict) : Type 0 where
  pub entries : List KmacEntry
  pub file : List ℕ
  pub spell : SpellRecording keys name files entries file trace
  pub taken : AreTaken trace.settings (key_at entries) trace.entries
  pub is : verdict ≡ check_verdict file (text_of_trace trace.settings (key_at entries) trace.entries)

-- status 0: each line is the one that a replay prints there, none is missing, and each is ended; the counts were written
pub record Checked (keys name : List ℕ) (files : Files) (before now : Option (List ℕ)) : Type 0 where
  pub trace : Trace
  pub outcomes : ℕ
  pub judged : IsJudgedRecording keys name files trace (Same outcomes)
  pub written : Grew before now (checked_line (length trace.entries) outcomes)

-- status 9: the first line that differs, or the last one that isn't ended, or the one that is missing, which is printed alone
pub record IsDifferent (keys name : List ℕ) (files : Files) (before now : Option (List ℕ)) : Type 0 where
  pub trace : Trace
  pub verdict : CheckVerdict
  pub judged : IsJudgedRecording keys name files trace verdict
  pub other : (outcomes : ℕ) → verdict ≡ Same outcomes → ⊥
  pub written : Grew before now (verdict_answer (length trace.entries) verdict).text

-- status 3: the key file is good, and the ended lines are out of the grammar of traces: their first fault, which is printed alone
pub record IsRecordingOutOfForm (keys name : List ℕ) (files : Files) (before now : Option (List ℕ)) : Type 0 where
  pub key_file : List ℕ
  pub keys_stand : HasFile files keys key_file
  pub entries : List KmacEntry
  pub keys_spelled : keys_of key_file ≡ Ok entries
  pub file : List ℕ
  pub stands : HasFile files name file
  pub line : ℕ
  pub why : Why
  pub unspelled : trace_of (ended_part file) ≡ Err (At line why)
  pub written : Grew before now (fault_line line (why_word why))

-- or an event isn't taken, the first such, whatever the lines before it: its line is printed alone
pub record IsRecordedEventRefused (keys name : List ℕ) (files : Files) (before now : Option (List ℕ)) : Type 0 where
  pub entries : List KmacEntry
  pub file : List ℕ
  pub trace : Trace
  pub spell : SpellRecording keys name files entries file trace
  pub fault : ReplayFault
  pub first : HasFirstRefusedEvent trace.settings (key_at entries) trace.entries fault
  pub written : Grew before now (replay_fault_line fault)

-- ---- completeness

-- a recording's status is that of its answer
pub record HasRecordingStatus (entries : List KmacEntry) (name : List ℕ) (files : Files) (status : ℕ) : Type 0 where
  pub file : List ℕ
  pub stands : HasFile files name file
  pub answer : Answer
  pub answers : IsCheckOfFile entries file answer
  pub is : status ≡ answer.status
