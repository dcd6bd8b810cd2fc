-- What came first stays first.
use Rattle.counted.proofs.Places.{places_stay}
use Rattle.counted.proofs.laws.keep_their_places.Goals as goal

pub returns : goal.returns
returns c = places_stay
