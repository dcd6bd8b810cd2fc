use Rattle.des_block.proofs.RoundTrips.{encipher_decipher}
use Rattle.des_block.proofs.laws.encipher_undoes_decipher.Goals as goal

pub returns : goal.returns
returns c = encipher_decipher
