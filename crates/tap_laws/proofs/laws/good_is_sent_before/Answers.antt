use Rattle.tap_laws.proofs.Genuine.{good_is_sent_before}
use Rattle.tap_laws.proofs.laws.good_is_sent_before.Goals as goal

pub returns : goal.returns
returns c = good_is_sent_before c.texts_tell.ensures c.lawful.ensures
