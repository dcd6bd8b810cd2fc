use Rattle.tap_laws.proofs.Told.{audit_finds_told}
use Rattle.tap_laws.proofs.laws.audit_finds_told.Goals as goal

pub returns : goal.returns
returns c = audit_finds_told c.stacks_run.ensures c.laws_of_two_ends.ensures
