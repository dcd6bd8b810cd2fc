-- What was read, checked or refused; and want of memory.
use Rattle.er_trace.specs.Files.{trace_of}
use Rattle.trace_model.specs.Recordings.{ended_part}
use Rattle.er_program.proofs.KeyedSpending.{spent_check}
use Rattle.er_program.proofs.check.check_file.Goals as goal

pub returns-in-Ok : goal.returns-in-Ok
returns-in-Ok g c = record { does = rw (rw c.ended_part.ensures at c.in-Ok.ensures.exact) c.check_events.ensures.does }

pub returns-in-Err-At : goal.returns-in-Err-At
returns-in-Err-At g c = record { does = rw (rw (c.ended_part.ensures, c.in-Err-At.field-0-is) at c.in-Err-At.ensures.exact) c.out_of_form.ensures.does }

pub returns-in-Err-NoMemory : goal.returns-in-Err-NoMemory
returns-in-Err-NoMemory g c = record { does = spent_check c.args.store.now c.args.octets.now (trace_of (ended_part c.args.octets.now)) _ }
