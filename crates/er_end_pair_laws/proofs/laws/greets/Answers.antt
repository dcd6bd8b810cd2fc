use Rattle.er_end_pair_laws.proofs.Greeted.{greets}
use Rattle.er_end_pair_laws.proofs.laws.greets.Goals as goal

pub returns : goal.returns
returns c = greets c.laws_below.ensures
