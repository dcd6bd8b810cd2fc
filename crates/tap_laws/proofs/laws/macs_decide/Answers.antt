use Rattle.tap_laws.proofs.Deciding.{macs_decide}
use Rattle.tap_laws.proofs.laws.macs_decide.Goals as goal

pub returns : goal.returns
returns c = macs_decide
