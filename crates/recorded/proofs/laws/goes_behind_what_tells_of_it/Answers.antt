use Rattle.recorded.proofs.Reading.{behind_what_tells}
use Rattle.recorded.proofs.laws.goes_behind_what_tells_of_it.Goals as goal

pub returns : goal.returns
returns g c = behind_what_tells _ _ _ _ c.args._recorded.now.kept
