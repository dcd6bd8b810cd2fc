use Rattle.safety_automaton.proofs.SessionKeys.{keys_are_own, keys_stay, keys_only}
use Rattle.safety_automaton.proofs.laws.session_keys.Goals as goal

pub returns : goal.returns
returns c = record { own = keys_are_own; stay = keys_stay; only = keys_only }
