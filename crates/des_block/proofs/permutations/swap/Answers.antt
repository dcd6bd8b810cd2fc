use Rattle.std.proofs.Common.{refl}
use Rattle.des_block.specs.Representation.{swapped}
use Rattle.des_block.proofs.permutations.swap.Goals as goal

pub returns : goal.returns
unfolding swapped
returns c = refl
