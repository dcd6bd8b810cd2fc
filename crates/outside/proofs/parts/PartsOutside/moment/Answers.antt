use Rattle.outside.proofs.Acting.{did_ask}
use Rattle.outside.proofs.parts.PartsOutside.moment.Goals as goal

pub returns-clause-does : goal.returns-clause-does
returns-clause-does g c = did_ask c.now-moment.result _ _ _ c.note.ensures c.now-moment.ensures.told
