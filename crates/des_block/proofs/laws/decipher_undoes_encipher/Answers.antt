use Rattle.des_block.proofs.RoundTrips.{decipher_encipher}
use Rattle.des_block.proofs.laws.decipher_undoes_encipher.Goals as goal

pub returns : goal.returns
returns c = decipher_encipher
