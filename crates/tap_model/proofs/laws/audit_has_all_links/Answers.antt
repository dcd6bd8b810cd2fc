use Rattle.tap_model.proofs.AllLinks.{audit_has_all_links}
use Rattle.tap_model.proofs.laws.audit_has_all_links.Goals as goal

pub returns : goal.returns
returns c = audit_has_all_links
