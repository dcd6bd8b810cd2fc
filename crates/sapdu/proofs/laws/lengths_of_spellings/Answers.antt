use Rattle.sapdu.proofs.Ranges.{spelling_octets}
use Rattle.sapdu.proofs.laws.lengths_of_spellings.Goals as goal

pub returns-clause-octets : goal.returns-clause-octets
returns-clause-octets c =
    spelling_octets (record { three = c.octets_of_numbers.ensures.three; eight = c.octets_of_numbers.ensures.eight })
    (record { joined = c.octets_of_parts.ensures.joined; parts = c.octets_of_parts.ensures.parts })
