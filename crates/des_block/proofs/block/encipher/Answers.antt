use Rattle.bit_lists.specs.Bits.{bits}
use Rattle.bit_lists.proofs.Widths.{length-bits}
use Rattle.des_block.proofs.RoundTrips.{decipher_encipher}
use Rattle.des_block.proofs.block.encipher.Goals as goal

pub returns-clause-undone : goal.returns-clause-undone
returns-clause-undone c = rw (c.encipher.ensures.value, c.new.ensures) (decipher_encipher (bits 64 c.args.key) (bits 64 c.args.block) (length-bits 64 c.args.block))
