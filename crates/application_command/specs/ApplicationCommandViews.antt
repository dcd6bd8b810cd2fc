-- Contract: a command with an application of the code as the definition has it.
use Rattle.std.specs.Prelude.{ℕ, List}
use Rattle.er_serving.specs.LineCommands.{LineCommand, Serve, Call}
use Rattle.er_serving.specs.LineCommandViews.{line_view}
use Rattle.application_command.specs.ApplicationCommands.{ApplicationCommand, ServeBeside, CallBeside}
use Rattle.application_command.specs.declared.command.ApplicationCommand.{ApplicationCommand as CodeCommand}

abbrev pub line_beside : LineCommand → (application : List ℕ) → ApplicationCommand
line_beside (Serve keys address rbc turns) application = ServeBeside keys address rbc turns application
line_beside (Call keys address engine rbc turns) application = CallBeside keys address engine rbc turns application

abbrev pub application_view : CodeCommand → ApplicationCommand
application_view command = line_beside (line_view command.line) command.application.now
