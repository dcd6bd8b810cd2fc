use Rattle.recorded.proofs.Reading.{beginning}
use Rattle.recorded.proofs.laws.holds_a_beginning.Goals as goal

pub returns : goal.returns
returns g c = beginning _ _ _ _ c.args._recorded.now.kept
