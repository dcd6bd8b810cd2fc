-- Representation: what a command that needs no wires leaves, by what its cabinet and its sink tell; no claim rests on it.
use Rattle.std.specs.Prelude.{◌≤◌, Result, IfOk}
use Rattle.link_trait.specs.Outside.{GrewPart, HasStayedAsTold}
use Rattle.link_trait.specs.States.{CabinetState, SinkState}
use Rattle.er_statuses.specs.declared.status.Status.{Status}
use Rattle.er_statuses.specs.declared.stop.Stop.{Stop}
use Rattle.er_program.specs.Asking.{Asks}
use Rattle.er_program.specs.Commands.{Command, names_of}
use Rattle.er_program.specs.Writing.{EndsCommand}

-- a command that needs no wires was answered, or broke off
pub record Answered (command : Command) (cabinet cabinet_now : CabinetState) (sink sink_now : SinkState) (result : Result Status Stop) : Type 0 where
  pub ends : EndsCommand command cabinet_now.files cabinet.faults cabinet_now.faults sink.held sink_now.held sink.faults sink_now.faults result
  pub asks : IfOk result (λ s. Asks command s.0 cabinet.asked cabinet_now.asked sink.held sink_now.held)
  pub part : GrewPart cabinet.asked cabinet_now.asked (names_of command)
  pub files : HasStayedAsTold cabinet.files cabinet_now.files
  pub unfetched : cabinet.faults ≤ cabinet_now.faults
  pub sunk : sink.faults ≤ sink_now.faults
