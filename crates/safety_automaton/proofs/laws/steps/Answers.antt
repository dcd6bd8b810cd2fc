use Rattle.safety_automaton.proofs.Only.{steps_only}
use Rattle.safety_automaton.proofs.Each.{steps_each}
use Rattle.safety_automaton.proofs.laws.steps.Goals as goal

pub returns : goal.returns
returns c = record { only = steps_only; each = steps_each }
