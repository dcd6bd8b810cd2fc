use Rattle.sapdu.proofs.Texts.{seals_one}
use Rattle.sapdu.proofs.laws.sealed_texts.Goals as goal

pub returns : goal.returns
returns c = seals_one (record { three = c.octets_of_numbers.ensures.three; eight = c.octets_of_numbers.ensures.eight })
