use Rattle.tap_laws.proofs.Tapped.{audit_finds_accepted}
use Rattle.tap_laws.proofs.laws.audit_finds_accepted.Goals as goal

pub returns : goal.returns
returns c = audit_finds_accepted c.stacks_run.ensures c.pairs_audited.ensures
