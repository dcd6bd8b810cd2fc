-- All lines stand in order, or the first that doesn't was told.
use Rattle.er_program.proofs.Auditing.{audited_all, audited_part}
use Rattle.er_program.proofs.audit.audit_lines.Goals as goal

pub returns-in-Ok : goal.returns-in-Ok
returns-in-Ok g c = record { does = audited_all _ _ _ _ _ c.in-Ok.ensures.audits }

pub returns-in-Err : goal.returns-in-Err
returns-in-Err g c = record { does = audited_part _ _ _ _ _ _ _ _ c.in-Err.ensures.audits c.not_audited.ensures.tells }
