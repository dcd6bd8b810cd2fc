use Rattle.recorded.proofs.Reading.{behind_its_lines}
use Rattle.recorded.proofs.laws.goes_behind_its_lines.Goals as goal

pub returns : goal.returns
returns g c = behind_its_lines _ _ _ _ c.args._recorded.now.kept
