use Rattle.recorded.proofs.Reading.{still_behind}
use Rattle.recorded.proofs.laws.is_still_behind_a_fault.Goals as goal

pub returns : goal.returns
returns g c = still_behind _ _ _ _ c.args._recorded.now.kept
