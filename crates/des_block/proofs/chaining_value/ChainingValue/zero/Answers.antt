use Rattle.std.proofs.Common.{refl}
use Rattle.bit_lists.specs.Bits.{bits, pick}
use Rattle.des_block.proofs.chaining_value.ChainingValue.zero.Goals as goal

pub returns : goal.returns
unfolding bits pick
returns c = refl
