use Rattle.er_end_pair_laws.proofs.Ordered.{reasons}
use Rattle.er_end_pair_laws.proofs.laws.losing_line_reasons.Goals as goal

pub returns : goal.returns
returns c = reasons c.laws_below.ensures
