use Rattle.sapdu.proofs.ReadBack.{read_spelling}
use Rattle.sapdu.proofs.laws.spelled_is_read.Goals as goal

pub returns : goal.returns
returns c = read_spelling (record { three = c.octets_of_numbers.ensures.three; eight = c.octets_of_numbers.ensures.eight })
