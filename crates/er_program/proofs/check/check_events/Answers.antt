-- The verdict on the lines, or the first event that isn't taken.
use Rattle.std.proofs.Common.{ap, length}
use Rattle.er_program.proofs.Checking.{checked_all, checked_part}
use Rattle.er_program.proofs.check.check_events.Goals as goal

pub returns-in-Ok : goal.returns-in-Ok
returns-in-Ok g c = record { does = checked_all _ _ _ _ _ _ _ _ _ (ap length c.as_slice.ensures) c.in-Ok.ensures c.judged.ensures.does }

pub returns-in-Err : goal.returns-in-Err
returns-in-Err g c = record { does = checked_part _ _ _ _ _ _ _ _ c.in-Err.ensures c.not_taken.ensures.tells }
