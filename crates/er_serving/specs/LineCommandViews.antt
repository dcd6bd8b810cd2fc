-- Contract: a command of the code as the definition has it.
use Rattle.er_serving.specs.LineCommands.{LineCommand, Serve, Call}
use Rattle.er_serving.specs.declared.line_command.LineCommand.{LineCommand as CodeCommand}
use Rattle.er_serving.specs.declared.line_command.LineCommand.TheVariants as code

abbrev pub line_view : CodeCommand → LineCommand
line_view (code.Serve keys address rbc turns) = Serve keys.now address.now rbc turns
line_view (code.Call keys address engine rbc turns) = Call keys.now address.now engine rbc turns
