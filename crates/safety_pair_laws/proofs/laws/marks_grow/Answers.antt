use Rattle.safety_pair_laws.proofs.Marking.{marks_grow}
use Rattle.safety_pair_laws.proofs.laws.marks_grow.Goals as goal

pub returns : goal.returns
returns c = marks_grow
