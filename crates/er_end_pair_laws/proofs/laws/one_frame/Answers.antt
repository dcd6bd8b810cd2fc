use Rattle.er_end_pair_laws.proofs.Together.{one_frame}
use Rattle.er_end_pair_laws.proofs.laws.one_frame.Goals as goal

pub returns : goal.returns
returns c = one_frame c.laws_below.ensures
