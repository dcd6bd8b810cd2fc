use Rattle.outside.proofs.Acting.{did_fetch}
use Rattle.outside.proofs.parts.PartsOutside.fetch.Goals as goal

pub returns : goal.returns
returns g c = record { does = did_fetch (λ file. file.items) c.fetch-answer.result _ _ _ _ c.note.ensures c.fetch-answer.ensures.ok c.fetch-answer.ensures.kept c.fetch-answer.ensures.noted c.fetch-answer.ensures.count c.fetch-answer.ensures.failed }
