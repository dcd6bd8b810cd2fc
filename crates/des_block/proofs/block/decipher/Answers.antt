use Rattle.bit_lists.specs.Bits.{bits}
use Rattle.bit_lists.proofs.Widths.{length-bits}
use Rattle.des_block.proofs.RoundTrips.{encipher_decipher}
use Rattle.des_block.proofs.block.decipher.Goals as goal

pub returns-clause-undone : goal.returns-clause-undone
returns-clause-undone c = rw (c.decipher.ensures.value, c.new.ensures) (encipher_decipher (bits 64 c.args.key) (bits 64 c.args.block) (length-bits 64 c.args.block))
