use Rattle.outside.proofs.Acting.{did_listen}
use Rattle.outside.proofs.parts.PartsOutside.listen.Goals as goal

pub returns : goal.returns
returns g c = record { does = did_listen c.listen-answer.result _ _ _ _ c.note.ensures c.listen-answer.ensures.told c.listen-answer.ensures.opened c.listen-answer.ensures.listening c.listen-answer.ensures.count c.listen-answer.ensures.cause c.listen-answer.ensures.turn_count c.listen-answer.ensures.turn_cause }
