-- The line was said, or its write failed.
use Rattle.std.proofs.Common.{inl, inr, refl}
use Rattle.er_statuses.proofs.acting.out_of_memory.Goals as goal

pub returns-in-Ok : goal.returns-in-Ok
returns-in-Ok g c = record { ends = inl (refl, c.in-Ok.ensures.does) }

pub returns-in-Err : goal.returns-in-Err
returns-in-Err g c = record { ends = inr (refl, c.in-Err.ensures.does) }
