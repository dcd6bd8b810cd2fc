use Rattle.outside.proofs.Acting.{did_close}
use Rattle.outside.proofs.parts.PartsOutside.close.Goals as goal

pub returns : goal.returns
returns g c = record { does = did_close _ _ _ _ c.note.ensures c.close.ensures.told c.close.ensures.opened c.close.ensures.listening c.close.ensures.count c.close.ensures.turn_count }
