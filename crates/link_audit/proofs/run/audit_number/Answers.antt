-- A link that wasn't opened.
use Rattle.link_audit.proofs.Printed.{none_written}
use Rattle.link_audit.proofs.run.audit_number.Goals as goal

pub returns-in-None-clause-writes : goal.returns-in-None-clause-writes
returns-in-None-clause-writes g c = none_written c.args.ends _ c.args.lines.now c.args.link _ _ (rw c.in-None.is at c.of.ensures)
