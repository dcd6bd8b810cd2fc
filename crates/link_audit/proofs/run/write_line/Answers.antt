-- It was written, or its write failed.
use Rattle.link_audit.proofs.Written.{wrote_alone, sank_alone}
use Rattle.link_audit.proofs.run.write_line.Goals as goal

pub returns-in-Ok : goal.returns-in-Ok
returns-in-Ok g c = record { writes = wrote_alone _ _ c.args.line.now c.requires c.in-Ok.ensures.does }

pub returns-in-Err : goal.returns-in-Err
returns-in-Err g c = record { writes = sank_alone _ _ c.args.line.now c.in-Err.ensures.does }
