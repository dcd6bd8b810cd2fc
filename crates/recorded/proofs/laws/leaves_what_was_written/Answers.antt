use Rattle.recorded.proofs.Reading.{all_left}
use Rattle.recorded.proofs.laws.leaves_what_was_written.Goals as goal

pub returns : goal.returns
returns c = all_left
