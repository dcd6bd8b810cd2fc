use Rattle.safety_automaton.proofs.TextsTell.{texts_tell}
use Rattle.safety_automaton.proofs.laws.texts_tell.Goals as goal

pub returns : goal.returns
returns c = texts_tell c.octets_of_numbers.ensures.eight.long
