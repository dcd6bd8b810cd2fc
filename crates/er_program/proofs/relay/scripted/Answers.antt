-- By what the file says.
use Rattle.relay_script.specs.Files.{script_of}
use Rattle.er_program.specs.RelayCommands.{relay_view}
use Rattle.er_program.proofs.RelayEnds.{spent_script}
use Rattle.er_program.proofs.relay.scripted.Goals as goal

pub returns-in-Ok : goal.returns-in-Ok
returns-in-Ok g c = record { ends = rw c.in-Ok.ensures.exact c.relayed.ensures.ends }

pub returns-in-Err-At : goal.returns-in-Err-At
returns-in-Err-At g c = record { ends = rw (rw c.in-Err-At.field-0-is at c.in-Err-At.ensures.exact) c.out_of_form.ensures.does }

pub returns-in-Err-NoMemory : goal.returns-in-Err-NoMemory
returns-in-Err-NoMemory g c = record { ends = spent_script (script_of c.args.octets.now) (relay_view c.args.command.now) _ }
