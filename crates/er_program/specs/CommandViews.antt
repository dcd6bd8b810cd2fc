-- Contract: a command of the code as the definition has it.
use Rattle.std.specs.Prelude.{ℕ, List}
use Rattle.er_serving.specs.LineCommands.{LineCommand}
use Rattle.er_serving.specs.LineCommands as line
use Rattle.er_serving.specs.LineCommandViews.{line_view}
use Rattle.er_program.specs.Commands.{Command, Misused, Drill, Bits, Migrate, Replay, Check, Audit, Bulk, Serve, Call}
use Rattle.er_program.specs.declared.command.Command.{Command as CodeCommand}
use Rattle.er_program.specs.declared.command.Command.TheVariants as code
use Rattle.er_program.specs.declared.file_command.FileCommand.{FileCommand}
use Rattle.er_program.specs.declared.file_command.FileCommand.TheVariants as file
use Rattle.er_program.specs.declared.file_command.PlainCommand.{PlainCommand}
use Rattle.er_program.specs.declared.file_command.PlainCommand.TheVariants as plain
use Rattle.er_program.specs.declared.work.Work.{Work}
use Rattle.er_program.specs.declared.work.Work.TheVariants as work

abbrev pub command_of_work : Work → (keys name : List ℕ) → Command
command_of_work work.Replay keys name = Replay keys name
command_of_work work.Check keys name = Check keys name
command_of_work (work.Audit ends) keys name = Audit keys name ends

abbrev pub plain_view : PlainCommand → Command
plain_view plain.Misused = Misused
plain_view (plain.Drill name) = Drill name.now
plain_view (plain.Bits name) = Bits name.now
plain_view (plain.Migrate keys) = Migrate keys.now
plain_view (plain.Bulk seed count) = Bulk seed count

abbrev pub file_view : FileCommand → Command
file_view (file.Plain command) = plain_view command
file_view (file.Keyed command) = command_of_work command.work command.keys.now command.name.now

-- a command that runs the readiness loop
abbrev pub command_of_line : LineCommand → Command
command_of_line (line.Serve keys address rbc turns) = Serve keys address rbc turns
command_of_line (line.Call keys address engine rbc turns) = Call keys address engine rbc turns

abbrev pub command_view : CodeCommand → Command
command_view (code.File command) = file_view command
command_view (code.Line command) = command_of_line (line_view command)
