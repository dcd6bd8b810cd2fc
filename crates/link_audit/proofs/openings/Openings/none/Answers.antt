-- No link is opened.
use Rattle.link_audit.proofs.Opened.{none_opened}
use Rattle.link_audit.proofs.openings.Openings.none.Goals as goal

pub returns : goal.returns
returns c = λ n least most. none_opened n least most
