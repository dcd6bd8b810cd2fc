-- Each has one place.
use Rattle.counted.proofs.Places.{one_place}
use Rattle.counted.proofs.laws.have_one_place.Goals as goal

pub returns : goal.returns
returns c = one_place
