-- Words that fit no command.
use Rattle.er_program.proofs.off_line.plain.Goals as goal

pub returns-in-Misused : goal.returns-in-Misused
returns-in-Misused g c = record { does = rw c.in-Misused.is c.misused.ensures.does }
