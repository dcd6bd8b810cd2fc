use Rattle.drill_ends.proofs.KeyRows.{key_found}
use Rattle.drill_ends.proofs.laws.keys.Goals as goal

pub returns : goal.returns
returns c = key_found
