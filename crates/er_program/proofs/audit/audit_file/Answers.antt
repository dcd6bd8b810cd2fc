-- What was read, audited or refused; and want of memory.
use Rattle.er_tap.specs.Files.{tap_of}
use Rattle.er_program.proofs.KeyedSpending.{spent_audit}
use Rattle.er_program.proofs.audit.audit_file.Goals as goal

pub returns-in-Ok : goal.returns-in-Ok
returns-in-Ok g c = record { does = rw c.in-Ok.ensures.exact c.audit_lines.ensures.does }

pub returns-in-Err-At : goal.returns-in-Err-At
returns-in-Err-At g c = record { does = rw (rw c.in-Err-At.field-0-is at c.in-Err-At.ensures.exact) c.out_of_form.ensures.does }

pub returns-in-Err-NoMemory : goal.returns-in-Err-NoMemory
returns-in-Err-NoMemory g c = record { does = spent_audit c.args.with_ends c.args.store.now (tap_of c.args.octets.now) _ }
