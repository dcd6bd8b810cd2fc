use Rattle.tap_laws.proofs.Pairs.{pairs_audited}
use Rattle.tap_laws.proofs.laws.pairs_audited.Goals as goal

pub returns : goal.returns
returns c = pairs_audited c.laws_of_two_ends.ensures
