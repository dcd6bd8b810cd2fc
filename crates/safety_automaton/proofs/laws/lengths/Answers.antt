use Rattle.safety_automaton.proofs.Lengths.{lengths_are, sends_few}
use Rattle.safety_automaton.proofs.laws.lengths.Goals as goal

pub returns : goal.returns
returns c = record { each = lengths_are c.octets_of_numbers.ensures.eight.long c.read_is_spelled.ensures.back; most = sends_few c.octets_of_numbers.ensures.eight.long }
