use Rattle.safety_automaton.proofs.Messages.{accepts_verified, verified_accepts}
use Rattle.safety_automaton.proofs.laws.accepts_verified.Goals as goal

pub returns : goal.returns
returns c = record { only = accepts_verified; each = verified_accepts }
