use Rattle.recorded.proofs.Reading.{done_inside}
use Rattle.recorded.proofs.laws.does_what_it_tells.Goals as goal

pub returns : goal.returns
returns g c = done_inside _ _ _ _ c.args._recorded.now.kept
