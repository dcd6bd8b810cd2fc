-- By computation.
use Rattle.std.proofs.Common.{refl}
use Rattle.bit_lists.specs.Bits.{pick}
use Rattle.des_block.proofs.laws.standard_tables.Goals as goal

pub returns-clause-inverse : goal.returns-clause-inverse
unfolding pick
returns-clause-inverse c = refl
