use Rattle.safety_automaton.proofs.Messages.{spelled_is_received, received_is_spelled}
use Rattle.safety_automaton.proofs.laws.received_is_spelled.Goals as goal

pub returns : goal.returns
returns c = record { received = spelled_is_received c.spelled_is_read.ensures; spelled = received_is_spelled c.read_is_spelled.ensures.back }
