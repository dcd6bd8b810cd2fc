use Rattle.outside.proofs.Acting.{did_send}
use Rattle.outside.proofs.parts.PartsOutside.send.Goals as goal

pub returns-clause-does : goal.returns-clause-does
returns-clause-does g c = did_send _ _ c.write-answer.result _ _ _ c.note.ensures c.write-answer.ensures.told c.write-answer.ensures.opened c.write-answer.ensures.listening c.write-answer.ensures.count c.write-answer.ensures.cause c.write-answer.ensures.turn_count
