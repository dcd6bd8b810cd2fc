use Rattle.tap_laws.proofs.Alone.{accepted_is_good}
use Rattle.tap_laws.proofs.laws.accepted_is_good.Goals as goal

pub returns : goal.returns
returns c = accepted_is_good c.laws_of_one_end.ensures
