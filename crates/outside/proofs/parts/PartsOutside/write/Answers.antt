use Rattle.outside.proofs.Acting.{did_write}
use Rattle.outside.proofs.parts.PartsOutside.write.Goals as goal

pub returns : goal.returns
returns g c = record { does = did_write c.write-answer.result _ _ _ _ c.note.ensures c.write-answer.ensures.ok c.write-answer.ensures.err c.write-answer.ensures.cause }
