use Rattle.sapdu.proofs.ReadBack.{read_spelling, spelling_injective}
use Rattle.sapdu.proofs.SpelledBack.{spelling_read}
use Rattle.sapdu.proofs.laws.read_is_spelled.Goals as goal

pub returns-clause-back : goal.returns-clause-back
returns-clause-back c =
    spelling_read (record { three = c.octets_of_numbers.ensures.three; eight = c.octets_of_numbers.ensures.eight })
    (record { joined = c.octets_of_parts.ensures.joined; parts = c.octets_of_parts.ensures.parts })

pub returns-clause-one : goal.returns-clause-one
returns-clause-one c =
    spelling_injective (read_spelling (record { three = c.octets_of_numbers.ensures.three; eight = c.octets_of_numbers.ensures.eight }))
