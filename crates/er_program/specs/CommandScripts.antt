-- What a command that needs no wires does to the outside, as its script, and with which status it exits (this profile).
use Rattle.std.specs.Prelude.{ℕ}
use Rattle.outside.specs.Doings.{Told}
use Rattle.outside.specs.Scripts.{End, Script, Does, says_last}
use Rattle.er_statuses.specs.ScriptEnds.{ExitsBy}
use Rattle.er_statuses.specs.LastLines.{usage_line}
use Rattle.er_program.specs.declared.file_command.FileCommand.{FileCommand}
use Rattle.er_program.specs.declared.file_command.FileCommand.TheVariants as file
use Rattle.er_program.specs.declared.file_command.PlainCommand.{PlainCommand}
use Rattle.er_program.specs.declared.file_command.PlainCommand.TheVariants as plain
use Rattle.er_program.specs.FileScripts.{migrates, reads_line}
use Rattle.er_program.specs.KeyedScripts.{works_behind_keys}
use Rattle.er_program.specs.StepScripts.{drills, bulks}

-- over one file or none
abbrev pub plain_script : PlainCommand → Script
plain_script plain.Misused = says_last 1 usage_line
plain_script (plain.Drill name) = drills name.now
plain_script (plain.Bits name) = reads_line name.now
plain_script (plain.Migrate keys) = migrates keys.now
plain_script (plain.Bulk seed count) = bulks seed count

-- over any files
abbrev pub file_script : FileCommand → Script
file_script (file.Plain command) = plain_script command
file_script (file.Keyed command) = works_behind_keys command.work command.keys.now command.name.now

-- its script was run, and it exits with this status, behind the last line where memory didn't suffice
pub record DoesFile (script : Script) (before now : Told) (status : ℕ) : Type 0 where
  pub end : End
  pub mid : Told
  pub does : Does script before mid end
  pub exits : ExitsBy end mid now status
