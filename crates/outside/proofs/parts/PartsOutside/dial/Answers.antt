use Rattle.outside.proofs.Acting.{did_dial}
use Rattle.outside.proofs.parts.PartsOutside.dial.Goals as goal

pub returns-clause-does : goal.returns-clause-does
returns-clause-does g c = did_dial c.dial-answer.result _ _ _ _ c.note.ensures c.dial-answer.ensures.told c.dial-answer.ensures.opened c.dial-answer.ensures.listening c.dial-answer.ensures.count c.dial-answer.ensures.cause c.dial-answer.ensures.turn_count c.dial-answer.ensures.turn_cause
