use Rattle.safety_automaton.proofs.Messages.{accepts_spelled, spelled_accepts}
use Rattle.safety_automaton.proofs.laws.accepts_spelled.Goals as goal

pub returns : goal.returns
returns c = record { only = accepts_spelled c.read_is_spelled.ensures.back; each = spelled_accepts c.spelled_is_read.ensures c.mac_below.ensures }
