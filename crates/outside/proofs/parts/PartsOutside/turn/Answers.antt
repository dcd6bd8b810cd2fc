use Rattle.outside.proofs.Acting.{did_turn}
use Rattle.outside.proofs.parts.PartsOutside.turn.Goals as goal

pub returns-clause-does : goal.returns-clause-does
returns-clause-does g c = did_turn _ c.turn-happening.result _ _ _ c.note.ensures c.turn-happening.ensures.told c.turn-happening.ensures.opened c.turn-happening.ensures.listening c.turn-happening.ensures.count c.turn-happening.ensures.cause c.turn-happening.ensures.turn_count c.turn-happening.ensures.turn_cause
