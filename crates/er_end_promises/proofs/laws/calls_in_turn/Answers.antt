use Rattle.er_end_promises.proofs.Telling.{calls_tell_deeds, calls_in_turn}
use Rattle.er_end_promises.proofs.laws.calls_in_turn.Goals as goal

pub returns-clause-deeds : goal.returns-clause-deeds
returns-clause-deeds c = calls_tell_deeds

pub returns-clause-turn : goal.returns-clause-turn
returns-clause-turn c = calls_in_turn
