use Rattle.safety_automaton.proofs.Finds.{finds_each, finds_only}
use Rattle.safety_automaton.proofs.laws.finds.Goals as goal

pub returns : goal.returns
returns c = record { each = finds_each; only = finds_only }
