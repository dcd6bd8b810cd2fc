use Rattle.safety_automaton.proofs.Messages.{released_rests}
use Rattle.safety_automaton.proofs.laws.released_rests.Goals as goal

pub returns : goal.returns
returns c = released_rests
