use Rattle.mio_wires.proofs.AllTold.{all_told}
use Rattle.mio_wires.proofs.laws.all_are_told.Goals as goal

pub returns : goal.returns
returns c = all_told
