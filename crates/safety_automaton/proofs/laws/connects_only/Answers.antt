use Rattle.safety_automaton.proofs.Messages.{connects_only}
use Rattle.safety_automaton.proofs.laws.connects_only.Goals as goal

pub returns : goal.returns
returns c = connects_only
