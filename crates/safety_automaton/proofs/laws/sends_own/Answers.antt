use Rattle.safety_automaton.proofs.Valid.{sends_own}
use Rattle.safety_automaton.proofs.laws.sends_own.Goals as goal

pub returns : goal.returns
returns c = sends_own c.mac_below.ensures
