use Rattle.tap_laws.proofs.Genuine.{good_is_sent}
use Rattle.tap_laws.proofs.laws.good_is_sent.Goals as goal

pub returns : goal.returns
returns c = good_is_sent c.good_is_sent_before.ensures
