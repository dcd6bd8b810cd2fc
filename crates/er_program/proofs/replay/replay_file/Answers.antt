-- What was read, replayed or refused; and want of memory.
use Rattle.er_trace.specs.Files.{trace_of}
use Rattle.er_program.proofs.KeyedSpending.{spent_replay}
use Rattle.er_program.proofs.replay.replay_file.Goals as goal

pub returns-in-Ok : goal.returns-in-Ok
returns-in-Ok g c = record { does = rw c.in-Ok.ensures.exact c.replay_trace.ensures.does }

pub returns-in-Err-At : goal.returns-in-Err-At
returns-in-Err-At g c = record { does = rw (rw c.in-Err-At.field-0-is at c.in-Err-At.ensures.exact) c.out_of_form.ensures.does }

pub returns-in-Err-NoMemory : goal.returns-in-Err-NoMemory
returns-in-Err-NoMemory g c = record { does = spent_replay c.args.store.now (trace_of c.args.octets.now) _ }
