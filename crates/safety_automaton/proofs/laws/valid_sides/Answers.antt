use Rattle.safety_automaton.proofs.Valid.{makes_valid, stays_valid, stays_itself}
use Rattle.safety_automaton.proofs.laws.valid_sides.Goals as goal

pub returns : goal.returns
returns c = record { makes = makes_valid; stays = stays_valid c.read_is_spelled.ensures.back; itself = stays_itself }
