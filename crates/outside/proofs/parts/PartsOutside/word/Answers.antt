use Rattle.outside.proofs.Acting.{did_draw}
use Rattle.outside.proofs.parts.PartsOutside.word.Goals as goal

pub returns : goal.returns
returns g c = record { does = did_draw c.next_u64-word.result _ _ _ c.note.ensures c.next_u64-word.ensures }
