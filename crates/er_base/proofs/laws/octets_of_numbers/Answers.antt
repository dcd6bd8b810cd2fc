use Rattle.er_base.proofs.OctetNumbers.{is_two, is_three, is_eight}
use Rattle.er_base.proofs.laws.octets_of_numbers.Goals as goal

pub returns-clause-two : goal.returns-clause-two
returns-clause-two c = is_two

pub returns-clause-three : goal.returns-clause-three
returns-clause-three c = is_three

pub returns-clause-eight : goal.returns-clause-eight
returns-clause-eight c = is_eight
